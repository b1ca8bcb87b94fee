-- The least length whose long form begins with known octets.
use Rattle.std.proofs.Common.{◌≡◌, ◌≢◌, ℕ, zero, suc, ◌+◌, ◌-◌, ◌*◌, ◌^◌, ◌<◌, ◌≤◌, List, [], ◌∷◌, ◌++◌, length, get_or, refl, sym, ◌∙◌, ap, subst, length-append, replicate, Some, arith}
use Rattle.std.proofs.Math.Nat.{pow-succ', pow-zero, mul-le-mul_left, mul-le-mul_right, one-le-pow, mul_assoc, mul-one, le-mul_of_pos_right}
use Rattle.std.proofs.lemmas.List.{length-replicate}
use Rattle.std.proofs.lemmas.Int.Digits.{number_digits_of, number_after_append, first_digits_of}
use Rattle.std.specs.Int.Digits.{digits_of, number_from_digits, number_from_digits_after, AllBelowBase}
use Rattle.cert_framing.specs.Fronts.{IsLongLength, IsLeastLength}

-- digits of which the first isn't 0 are the digits of their number: a law of strict headers
abbrev pub FewestDigits : Type 0
FewestDigits = (b d : ℕ) (ds : List ℕ) → 2 ≤ b → 0 < d → AllBelowBase b (d ∷ ds) → digits_of b (number_from_digits b (d ∷ ds)) ≡ d ∷ ds

after_zeros : (b v k : ℕ) → number_from_digits_after b v (replicate k 0) ≡ v * b ^ k
after_zeros b v zero = sym (rw pow-zero (mul-one v))
after_zeros b v (suc k) =
    let more : (v * b + 0) * b ^ k ≡ v * b ^ suc k = rw (pow-succ' b k) (omega (arith, mul_assoc v b (b ^ k))) in
    after_zeros b (v * b + 0) k ∙ more

-- digits after a number make it at least as great as zeros do
after_at_least : (b v : ℕ) (ds : List ℕ) → v * b ^ length ds ≤ number_from_digits_after b v ds
after_at_least b v [] = rw pow-zero (omega (arith, mul-one v))
after_at_least b v (d ∷ ds) =
    let more : v * b ^ suc (length ds) ≡ (v * b) * b ^ length ds = rw (pow-succ' b (length ds)) (sym (mul_assoc v b (b ^ length ds))) in
    let wider : (v * b) * b ^ length ds ≤ (v * b + d) * b ^ length ds = mul-le-mul_right (b ^ length ds) (omega arith) in
    rw more (omega (arith, after_at_least b (v * b + d) ds))

zeros_below : (k : ℕ) → AllBelowBase 256 (replicate k 0)
zeros_below zero = tt
zeros_below (suc k) = (omega arith, zeros_below k)

below_append : (b : ℕ) (xs ys : List ℕ) → AllBelowBase b xs → AllBelowBase b ys → AllBelowBase b (xs ++ ys)
below_append b [] ys all all' = all'
below_append b (x ∷ xs) ys all all' = (all.0, below_append b xs ys all.1 all')

-- digits of which the first isn't 0, with zeros after them, are a long length
spelled_with_zeros : FewestDigits → (d : ℕ) (ds : List ℕ) (k : ℕ) → 0 < d → AllBelowBase 256 (d ∷ ds)
    → digits_of 256 (number_from_digits 256 (d ∷ ds) * 256 ^ k) ≡ d ∷ (ds ++ replicate k 0)
spelled_with_zeros fewest d ds k pos below =
    let value : number_from_digits 256 (d ∷ (ds ++ replicate k 0)) ≡ number_from_digits 256 (d ∷ ds) * 256 ^ k =
    number_after_append 256 (0 * 256 + d) ds (replicate k 0) ∙ after_zeros 256 (number_from_digits 256 (d ∷ ds)) k in
    rw (← value) (fewest 256 d (ds ++ replicate k 0) (omega arith) pos (below.0, below_append 256 ds (replicate k 0) below.1 (zeros_below k)))

-- two digits or more, or one of 128 and more, make at least 128
large_enough : (d : ℕ) (ds : List ℕ) (k : ℕ) → 0 < d → (length ds + k ≡ 0 → 128 ≤ d) → 128 ≤ number_from_digits 256 (d ∷ ds) * 256 ^ k
large_enough d [] zero pos high = rw (pow-zero 256) (omega (arith, high refl))
large_enough d [] (suc k) pos high =
    let few : 1 ≤ 256 ^ k = one-le-pow k 256 (omega arith) in
    let most : 256 * 1 ≤ 256 * 256 ^ k = mul-le-mul_left 256 few in
    let whole : 1 * (256 * 256 ^ k) ≤ d * (256 * 256 ^ k) = mul-le-mul_right (256 * 256 ^ k) pos in
    rw (pow-succ' 256 k) (omega arith)
large_enough d (e ∷ ds) k pos high =
    let few : 1 ≤ 256 ^ k = one-le-pow k 256 (omega arith) in
    let digits : (0 * 256 + d) * 256 ^ suc (length ds) ≤ number_from_digits 256 (d ∷ e ∷ ds) = after_at_least 256 (0 * 256 + d) (e ∷ ds) in
    let some : 1 ≤ 256 ^ length ds = one-le-pow (length ds) 256 (omega arith) in
    let power : 256 ^ suc (length ds) ≡ 256 * 256 ^ length ds = pow-succ' 256 (length ds) in
    let one : 1 ≤ 0 * 256 + d = omega arith in
    let first : 1 * 256 ^ suc (length ds) ≤ (0 * 256 + d) * 256 ^ suc (length ds) = mul-le-mul_right (256 ^ suc (length ds)) one in
    let above : number_from_digits 256 (d ∷ e ∷ ds) ≤ number_from_digits 256 (d ∷ e ∷ ds) * 256 ^ k = le-mul_of_pos_right (number_from_digits 256 (d ∷ e ∷ ds)) few in
    omega arith

-- the number of a long length
value_of_long : (known : List ℕ) (count n : ℕ) (long : IsLongLength known count n) → n ≡ number_from_digits 256 (known ++ long.more)
value_of_long known count n long = sym (number_digits_of 256 n (omega arith)) ∙ ap (number_from_digits 256) long.spelled

-- after known octets of which the first isn't 0, zeros make the least length
pub least_behind : FewestDigits → (d : ℕ) (ds : List ℕ) (count k : ℕ) → 0 < d → AllBelowBase 256 (d ∷ ds) → length (d ∷ ds) + k ≡ count → (count ≡ 1 → 128 ≤ d)
    → IsLeastLength (d ∷ ds) count (Some (number_from_digits 256 (d ∷ ds) * 256 ^ k))
least_behind fewest d ds count k pos below size high = (
  record {
    more = replicate k 0;
    large = large_enough d ds k pos (λ none. high (omega arith));
    spelled = spelled_with_zeros fewest d ds k pos below;
    full = length-append (d ∷ ds) (replicate k 0) ∙ rw (length-replicate {A = ℕ} k 0) size;
  },
  λ n long.
      let value : n ≡ number_from_digits_after 256 (number_from_digits 256 (d ∷ ds)) long.more =
      value_of_long (d ∷ ds) count n long ∙ number_after_append 256 (0 * 256 + d) ds long.more in
      let width : length long.more ≡ k = omega (arith, long.full, length-append (d ∷ ds) long.more) in
      let above : number_from_digits 256 (d ∷ ds) * 256 ^ length long.more ≤ number_from_digits_after 256 (number_from_digits 256 (d ∷ ds)) long.more =
      after_at_least 256 (number_from_digits 256 (d ∷ ds)) long.more in
      rw (value, ← width) above,
)

-- a long length of digits that are all unknown
first_known : (d n : ℕ) (ds : List ℕ) → 0 < n → digits_of 256 n ≡ d ∷ ds → 0 < d
first_known d n ds pos spelled =
    let first = first_digits_of 256 n (omega arith) pos in
    rw spelled at first

-- a long length has octets
pub where_none : (n : ℕ) → 128 ≤ n → digits_of 256 n ≡ [] → ⊥
where_none n large spelled =
    let value : number_from_digits 256 (digits_of 256 n) ≡ n = number_digits_of 256 n (omega arith) in
    let none : 0 ≡ n = rw spelled at value in
    omega arith

-- and is no less than a 1 with zeros after it
least_above : (count k n : ℕ) (more : List ℕ) → 128 ≤ n → digits_of 256 n ≡ more → length more ≡ count → k + 1 ≡ count → 1 * 256 ^ k ≤ n
least_above count k n [] large spelled full size = absurd (where_none n large spelled)
least_above count k n (d ∷ ds) large spelled full size =
    let pos : 0 < d = first_known d n ds (omega arith) spelled in
    let value : n ≡ number_from_digits 256 (d ∷ ds) = sym (number_digits_of 256 n (omega arith)) ∙ ap (number_from_digits 256) spelled in
    let above : (0 * 256 + d) * 256 ^ length ds ≤ number_from_digits 256 (d ∷ ds) = after_at_least 256 (0 * 256 + d) ds in
    let width : length ds ≡ k = omega arith in
    let above' : (0 * 256 + d) * 256 ^ k ≤ number_from_digits 256 (d ∷ ds) = rw width at above in
    let one : 1 ≤ 0 * 256 + d = omega arith in
    let first : 1 * 256 ^ k ≤ (0 * 256 + d) * 256 ^ k = mul-le-mul_right (256 ^ k) one in
    rw value (omega arith)

pub least_of_none : FewestDigits → (count k : ℕ) → 2 ≤ count → k + 1 ≡ count → IsLeastLength [] count (Some (1 * 256 ^ k))
least_of_none fewest count k two size =
    let one : IsLongLength (1 ∷ []) count (1 * 256 ^ k) = (least_behind fewest 1 [] count k (omega arith) (omega arith, tt) (omega arith) (λ lone. absurd (omega arith))).0 in (
      record { more = 1 ∷ one.more; large = one.large; spelled = one.spelled; full = one.full },
      λ n long. least_above count k n long.more long.large long.spelled long.full size,
    )

-- the least length of one octet in the long form is the first that doesn't fit the short form
pub least_of_one : IsLeastLength [] 1 (Some 128)
least_of_one =
    (record { more = 128 ∷ []; large = omega arith; spelled = refl; full = refl }, λ n long. long.large)

-- no long length begins with a 0
pub none_from_zero : (ds : List ℕ) (count n : ℕ) → IsLongLength (0 ∷ ds) count n → ⊥
none_from_zero ds count n long =
    let pos : 0 < 0 = first_known 0 n (ds ++ long.more) (omega (arith, long.large)) long.spelled in
    omega arith

none_from_lone : (d n : ℕ) (ds : List ℕ) → d < 128 → 128 ≤ n → digits_of 256 n ≡ d ∷ ds → length ds ≡ 0 → ⊥
none_from_lone d n (e ∷ ds) low large spelled none = omega arith
none_from_lone d n [] low large spelled none =
    let value : n ≡ number_from_digits 256 (d ∷ []) = sym (number_digits_of 256 n (omega arith)) ∙ ap (number_from_digits 256) spelled in
    omega arith

-- nor does one octet below 128 make one
pub none_from_small : (d n : ℕ) (ds : List ℕ) → d < 128 → IsLongLength (d ∷ ds) 1 n → ⊥
none_from_small d n ds low long =
    let none : length (ds ++ long.more) ≡ 0 = omega (arith, long.full) in
    none_from_lone d n (ds ++ long.more) low long.large long.spelled none

-- octets that are below 256 at each index are all below 256
pub below_from : (octets : List ℕ) → ((k : ℕ) → get_or octets k 0 < 256) → AllBelowBase 256 octets
below_from [] all = tt
below_from (x ∷ octets) all = (all 0, below_from octets (λ k. all (suc k)))

pub none_of_zero : (known : List ℕ) (count n : ℕ) → 0 < length known → get_or known 0 0 ≡ 0 → IsLongLength known count n → ⊥
none_of_zero [] count n some first long = omega arith
none_of_zero (d ∷ ds) count n some first long =
    none_from_zero ds count n (subst (λ (x : ℕ). IsLongLength (x ∷ ds) count n) first long)

pub none_of_small : (known : List ℕ) (count n : ℕ) → 0 < length known → count ≡ 1 → get_or known 0 0 < 128 → IsLongLength known count n → ⊥
none_of_small [] count n some one first long = omega arith
none_of_small (d ∷ ds) count n some one first long =
    none_from_small d n ds first (subst (λ (x : ℕ). IsLongLength (d ∷ ds) x n) one long)

pub least_of_known : FewestDigits → (known : List ℕ) (count k : ℕ) → 0 < length known → get_or known 0 0 ≢ 0 → AllBelowBase 256 known
    → length known + k ≡ count → (count ≡ 1 → 128 ≤ get_or known 0 0)
    → IsLeastLength known count (Some (number_from_digits 256 known * 256 ^ k))
least_of_known fewest [] count k some first below size high = absurd (omega arith)
least_of_known fewest (d ∷ ds) count k some first below size high = least_behind fewest d ds count k (omega arith) below size high

-- if none is known
pub least_of_lone : (known : List ℕ) (count : ℕ) → length known < 1 → count ≡ 1 → IsLeastLength known count (Some 128)
least_of_lone [] count none one = subst (λ (n : ℕ). IsLeastLength [] n (Some 128)) (sym one) least_of_one
least_of_lone (d ∷ ds) count none one = absurd (omega arith)

pub least_of_unknown : FewestDigits → (known : List ℕ) (count : ℕ) → length known < 1 → 2 ≤ count → IsLeastLength known count (Some (1 * 256 ^ (count - 1)))
least_of_unknown fewest [] count none two = least_of_none fewest count (count - 1) two (omega arith)
least_of_unknown fewest (d ∷ ds) count none two = absurd (omega arith)
