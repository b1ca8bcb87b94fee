-- Octets with no leading zero compare as their numbers: first by how many they are, then octet by octet.
use Rattle.std.proofs.Common.{Ordering, Less, Equal, Greater, arith, inl, inr, ◌≡◌, ◌≢◌, ◌∙◌, refl, sym, ap, ap₂, subst, ℕ, zero, suc, ◌+◌, ◌*◌, ◌<◌, ◌≤◌, List, [], ◌∷◌, length, get_or, Fits, w8}
use Rattle.std.specs.Ordering.{MatchOrdering, is_eq, ordering_then, nat_cmp}
use Rattle.std.specs.Cmp.{nat_cmp_is, ranks}
use Rattle.std.specs.Cmp.Lexicographic.{slice_cmp, bytes_decides}
use Rattle.std.proofs.lemmas.Map.Text.{is_eq-slice_cmp}
use Rattle.std.specs.Int.Digits.{number_from_digits, number_from_digits_after, digits_of, AllBelowBase}
use Rattle.std.proofs.lemmas.Int.Digits.{all_below_base_digits_of, first_digits_of, number_digits_of}
use Rattle.std.proofs.lemmas.Bool.{cases_lt}
use Rattle.asn1_unsigned.specs.Octets.{NoLeadingZero}

-- the highest digits decide, if as many follow
less_after : (m n : ℕ) (xs ys : List ℕ) → m < n → length xs ≡ length ys → AllBelowBase 256 xs
    → number_from_digits_after 256 m xs < number_from_digits_after 256 n ys
less_after m n [] [] less long below = less
less_after m n [] (y ∷ ys) less long below = absurd (omega (arith, long))
less_after m n (x ∷ xs) [] less long below = absurd (omega (arith, long))
less_after m n (x ∷ xs) (y ∷ ys) less long below =
    less_after (m * 256 + x) (n * 256 + y) xs ys (omega (arith, less, below.0)) (omega (arith, long)) below.1

-- a number above 0 before as many digits or more makes the greater number
less_longer : (n : ℕ) (xs ys : List ℕ) → 0 < n → length xs ≤ length ys → AllBelowBase 256 xs
    → number_from_digits_after 256 0 xs < number_from_digits_after 256 n ys
less_longer n xs [] some long below = less_after 0 n xs [] some (omega (arith, long)) below
less_longer n xs (y ∷ ys) some long below = elim (cases_lt (length ys) (length xs)) [
  | inl as_many ↦ less_after 0 n xs (y ∷ ys) some (omega (arith, long, as_many)) below
  | inr fewer ↦ less_longer (n * 256 + y) xs ys (omega (arith, some)) fewer below
]

pub shorter_is_less : (xs ys : List ℕ) → length xs < length ys → AllBelowBase 256 xs → NoLeadingZero ys
    → number_from_digits 256 xs < number_from_digits 256 ys
shorter_is_less xs [] long below first = absurd (omega (arith, long))
shorter_is_less xs (y ∷ ys) long below first = less_longer (0 * 256 + y) xs ys (omega (arith, first)) (omega (arith, long)) below

-- the first digits decide, unless they are equal
compared_by : (n x y : ℕ) (xs ys : List ℕ) (o : Ordering) → MatchOrdering o (x < y) (x ≡ y) (y < x) → length xs ≡ length ys
    → AllBelowBase 256 (x ∷ xs) → AllBelowBase 256 (y ∷ ys)
    → ((m : ℕ) → slice_cmp nat_cmp xs ys ≡ nat_cmp (number_from_digits_after 256 m xs) (number_from_digits_after 256 m ys))
    → ordering_then o (slice_cmp nat_cmp xs ys)
    ≡ nat_cmp (number_from_digits_after 256 (n * 256 + x) xs) (number_from_digits_after 256 (n * 256 + y) ys)
compared_by n x y xs ys Less less long below below' later =
    nat_cmp_is _ _ Less (less_after (n * 256 + x) (n * 256 + y) xs ys (omega (arith, less)) long below.1)
compared_by n x y xs ys Equal same long below below' later =
    later (n * 256 + x)
    ∙ ap (λ z. nat_cmp (number_from_digits_after 256 (n * 256 + x) xs) (number_from_digits_after 256 (n * 256 + z) ys)) same
compared_by n x y xs ys Greater more long below below' later =
    nat_cmp_is _ _ Greater (less_after (n * 256 + y) (n * 256 + x) ys xs (omega (arith, more)) (sym long) below'.1)

-- as many octets compare from the highest on
compared_after : (xs ys : List ℕ) → length xs ≡ length ys → AllBelowBase 256 xs → AllBelowBase 256 ys → (n : ℕ)
    → slice_cmp nat_cmp xs ys ≡ nat_cmp (number_from_digits_after 256 n xs) (number_from_digits_after 256 n ys)
compared_after [] [] long below below' n = nat_cmp_is n n Equal refl
compared_after [] (y ∷ ys) long below below' n = absurd (omega (arith, long))
compared_after (x ∷ xs) [] long below below' n = absurd (omega (arith, long))
compared_after (x ∷ xs) (y ∷ ys) long below below' n =
    let shorter : length xs ≡ length ys = omega (arith, long) in
    compared_by n x y xs ys (nat_cmp x y) (ranks x y) shorter below below' (compared_after xs ys shorter below.1 below'.1)

pub as_long_compared : (xs ys : List ℕ) → length xs ≡ length ys → AllBelowBase 256 xs → AllBelowBase 256 ys
    → slice_cmp nat_cmp xs ys ≡ nat_cmp (number_from_digits 256 xs) (number_from_digits 256 ys)
as_long_compared xs ys long below below' = compared_after xs ys long below below' 0

-- the fewest digits of a number have no leading zero
pub first_of_digits : (n : ℕ) → NoLeadingZero (digits_of 256 n)
first_of_digits zero = tt
first_of_digits (suc n) = first_of (digits_of 256 (suc n)) (first_digits_of 256 (suc n) (omega arith) (omega arith))
  where
    first_of : (ds : List ℕ) → 0 < get_or ds 0 0 → NoLeadingZero ds
    first_of [] some = tt
    first_of (d ∷ ds) some = some

-- as many octets of one number are equal
same_digits : (xs ys : List ℕ) → length xs ≡ length ys → AllBelowBase 256 xs → AllBelowBase 256 ys
    → number_from_digits 256 xs ≡ number_from_digits 256 ys → xs ≡ ys
same_digits xs ys long below below' e =
    let tied = as_long_compared xs ys long below below' ∙ sym (nat_cmp_is _ _ Equal e) in
    (bytes_decides xs ys).0 (sym (is_eq-slice_cmp xs ys) ∙ ap is_eq tied)

-- octets with no leading zero are the digits of their number
pub digits_of_octets : (xs : List ℕ) → AllBelowBase 256 xs → NoLeadingZero xs → digits_of 256 (number_from_digits 256 xs) ≡ xs
digits_of_octets xs below first =
    let n = number_from_digits 256 xs in
    let ds = digits_of 256 n in
    let digits = all_below_base_digits_of 256 n (omega arith) in
    let same : number_from_digits 256 ds ≡ n = number_digits_of 256 n (omega arith) in
    elim (cases_lt (length ds) (length xs)) [
      | inl fewer ↦ absurd (omega (arith, same, shorter_is_less ds xs fewer digits first))
      | inr more ↦ elim (cases_lt (length xs) (length ds)) [
        | inl fewer ↦ absurd (omega (arith, same, shorter_is_less xs ds fewer below (first_of_digits n)))
        | inr less ↦ same_digits ds xs (omega (arith, more, less)) digits below same
      ]
    ]

-- the digits of two numbers compare as the numbers
pub as_long : (m n : ℕ) → length (digits_of 256 m) ≡ length (digits_of 256 n)
    → slice_cmp nat_cmp (digits_of 256 m) (digits_of 256 n) ≡ nat_cmp m n
as_long m n long =
    as_long_compared (digits_of 256 m) (digits_of 256 n) long (all_below_base_digits_of 256 m (omega arith)) (all_below_base_digits_of 256 n (omega arith))
    ∙ ap₂ nat_cmp (number_digits_of 256 m (omega arith)) (number_digits_of 256 n (omega arith))

shorter_digits : (m n : ℕ) → length (digits_of 256 m) < length (digits_of 256 n) → m < n
shorter_digits m n fewer =
    let less = shorter_is_less (digits_of 256 m) (digits_of 256 n) fewer (all_below_base_digits_of 256 m (omega arith)) (first_of_digits n) in
    omega (arith, less, number_digits_of 256 m (omega arith), number_digits_of 256 n (omega arith))

pub longer : (m n : ℕ) → length (digits_of 256 m) ≢ length (digits_of 256 n)
    → nat_cmp (length (digits_of 256 m)) (length (digits_of 256 n)) ≡ nat_cmp m n
longer m n other = elim (cases_lt (length (digits_of 256 m)) (length (digits_of 256 n))) [
  | inl fewer ↦ sym (nat_cmp_is _ _ Less fewer) ∙ nat_cmp_is _ _ Less (shorter_digits m n fewer)
  | inr more ↦
      let fewer : length (digits_of 256 n) < length (digits_of 256 m) = omega (arith, more, other) in
      sym (nat_cmp_is _ _ Greater fewer) ∙ nat_cmp_is _ _ Greater (shorter_digits n m fewer)
]

pub same_by_cmp : (m n : ℕ) → Equal ≡ nat_cmp m n → m ≡ n
same_by_cmp m n e = subst (λ o. MatchOrdering o (m < n) (m ≡ n) (n < m)) (sym e) (ranks m n)

-- what a slice of octets is known to hold
pub all_octets : (xs : List ℕ) → ((i : ℕ) → Fits w8 (get_or xs i 0)) → AllBelowBase 256 xs
all_octets [] each = tt
all_octets (x ∷ xs) each = (omega (arith, each 0), all_octets xs (λ i. each (suc i)))
