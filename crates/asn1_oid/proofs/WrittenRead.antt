-- Reading gives what was written.
use Rattle.std.proofs.Common.{◌≡◌, ◌≢◌, ℕ, zero, suc, ◌+◌, ◌*◌, ◌%◌, ◌^◌, ◌<◌, ◌≤◌, ◌⊎◌, Bool, true, false, ◌&&◌, List, [], ◌∷◌, ◌++◌, get_or, refl, ap, ◌∙◌, append_assoc, arith, inl, inr}
use Rattle.std.specs.Prelude.{nat_lt, nat_le, ◌==◌}
use Rattle.std.proofs.lemmas.Bool.{cond-true, cond-false, lt-ltb, le-ltb, le-leb, lt-leb, ne_eqb, not_from_false}
use Rattle.std.proofs.lemmas.Int.Digits.{number_digits_of, all_below_base_digits_of, first_digits_of, number_after_ge}
use Rattle.std.specs.Int.Digits.{digits_of, number_from_digits_after, AllBelowBase}
use Rattle.asn1_core.specs.Digits.{continued}
use Rattle.asn1_oid.specs.Identifier.{shortest_digits, subidentifier_octets, content_octets}
use Rattle.asn1_oid.specs.Reading.{pushed, is_strict_after, is_small_after, numbers_after}

-- ---- digits

-- the octet of a digit that others follow
more_low : (d : ℕ) → d < 128 → (128 + d) % 128 ≡ d
more_low d below = omega arith

-- the number that digits go on to from n
numbers_after-continued : (n d : ℕ) (ds rest : List ℕ) → AllBelowBase 128 (d ∷ ds)
    → numbers_after n (continued (d ∷ ds) ++ rest) ≡ number_from_digits_after 128 n (d ∷ ds) ∷ numbers_after 0 rest
unfolding numbers_after
numbers_after-continued n d [] rest below =
    let low : d % 128 ≡ d = omega arith in
    cond-true (nat_lt d 128) _ _ (lt-ltb d 128 below.0) ∙ ap (λ (k : ℕ). (n * 128 + k) ∷ numbers_after 0 rest) low
numbers_after-continued n d (e ∷ ds) rest below =
    cond-false (nat_lt (128 + d) 128) _ _ (le-ltb (128 + d) 128 (omega arith))
    ∙ ap (λ (k : ℕ). numbers_after (n * 128 + k) (continued (e ∷ ds) ++ rest)) (more_low d below.0)
    ∙ numbers_after-continued (n * 128 + d) e ds rest below.1

-- within a subidentifier any digits are strict
strict_within-continued : (d : ℕ) (ds rest : List ℕ) → AllBelowBase 128 (d ∷ ds)
    → is_strict_after true (continued (d ∷ ds) ++ rest) ≡ is_strict_after false rest
unfolding is_strict_after
strict_within-continued d [] rest below = ap (λ (b : Bool). is_strict_after b rest) (lt-leb 128 d below.0)
strict_within-continued d (e ∷ ds) rest below =
    ap (λ (b : Bool). is_strict_after b (continued (e ∷ ds) ++ rest)) (le-leb 128 (128 + d) (omega arith))
    ∙ strict_within-continued e ds rest below.1

-- so are digits that do not begin with 0
strict-continued : (ds rest : List ℕ) → AllBelowBase 128 ds → 0 < get_or ds 0 0
    → is_strict_after false (continued ds ++ rest) ≡ is_strict_after false rest
unfolding is_strict_after
strict-continued [] rest below some = absurd (omega arith)
strict-continued (d ∷ []) rest below some =
    let here = not_from_false (d == 128) (ne_eqb d 128 (λ (e : d ≡ 128). omega arith)) in
    ap (λ (b : Bool). b && is_strict_after (nat_le 128 d) rest) here ∙ ap (λ (b : Bool). is_strict_after b rest) (lt-leb 128 d below.0)
strict-continued (d ∷ e ∷ ds) rest below some =
    let later = continued (e ∷ ds) ++ rest in
    let here = not_from_false (128 + d == 128) (ne_eqb (128 + d) 128 (λ (q : 128 + d ≡ 128). omega arith)) in
    ap (λ (b : Bool). b && is_strict_after (nat_le 128 (128 + d)) later) here
    ∙ ap (λ (b : Bool). is_strict_after b later) (le-leb 128 (128 + d) (omega arith))
    ∙ strict_within-continued e ds rest below.1

-- one octet of a small number: its last, or another
pub small-last : (n octet : ℕ) (rest : List ℕ) → octet < 128 → pushed n octet < 2 ^ 64 → is_small_after n (octet ∷ rest) ≡ is_small_after 0 rest
unfolding is_small_after
small-last n octet rest low fits = rw (lt-ltb (n * 128 + octet % 128) (2 ^ 64) fits, lt-ltb octet 128 low)

pub small-more : (n octet : ℕ) (rest : List ℕ) → 128 ≤ octet → pushed n octet < 2 ^ 64 → 0 < pushed n octet
    → is_small_after n (octet ∷ rest) ≡ is_small_after (pushed n octet) rest
unfolding is_small_after
small-more n octet rest more fits above =
    rw (lt-ltb (n * 128 + octet % 128) (2 ^ 64) fits, le-ltb octet 128 more, lt-ltb 0 (n * 128 + octet % 128) above)

-- digits whose number is small are small, if n or their first is not 0, or there is only one
small-continued : (n d : ℕ) (ds rest : List ℕ) → AllBelowBase 128 (d ∷ ds) → (ds ≢ [] → 0 < n * 128 + d)
    → number_from_digits_after 128 n (d ∷ ds) < 2 ^ 64 → is_small_after n (continued (d ∷ ds) ++ rest) ≡ is_small_after 0 rest
small-continued n d [] rest below some small =
    let low : d % 128 ≡ d = omega arith in
    small-last n d rest below.0 (omega arith)
small-continued n d (e ∷ ds) rest below some small =
    let low = more_low d below.0 in
    let above : 0 < n * 128 + d = some (λ (q : e ∷ ds ≡ []). cc) in
    let grows = number_after_ge 128 (n * 128 + d) (e ∷ ds) (omega arith) in
    small-more n (128 + d) (continued (e ∷ ds) ++ rest) (omega arith) (omega arith) (omega arith)
    ∙ ap (λ (k : ℕ). is_small_after (n * 128 + k) (continued (e ∷ ds) ++ rest)) low
    ∙ small-continued (n * 128 + d) e ds rest below.1 (λ (q : ds ≢ []). omega arith) small

-- ---- a subidentifier

-- the fewest digits of a number, which a subidentifier is made of
record AreShortest (n : ℕ) (ds : List ℕ) : Type 0 where
  below : AllBelowBase 128 ds
  number : number_from_digits_after 128 0 ds ≡ n
  first : (ds ≡ 0 ∷ []) ⊎ (0 < get_or ds 0 0)

shortest : (n : ℕ) → AreShortest n (shortest_digits n)
shortest zero = record { below = (omega arith, tt); number = refl; first = inl refl }
shortest (suc n) =
    let is : shortest_digits (suc n) ≡ digits_of 128 (suc n) = cond-false _ _ _ (ne_eqb (suc n) 0 (λ (e : suc n ≡ 0). omega arith)) in
    rw is (record {
      below = all_below_base_digits_of 128 (suc n) (omega arith);
      number = number_digits_of 128 (suc n) (omega arith);
      first = inr (first_digits_of 128 (suc n) (omega arith) (omega arith));
    })

digits_read : (n : ℕ) (ds rest : List ℕ) → AreShortest n ds → numbers_after 0 (continued ds ++ rest) ≡ n ∷ numbers_after 0 rest
digits_read n [] rest are = elim are.first [ inl e ↦ cc | inr some ↦ absurd (omega arith) ]
digits_read n (d ∷ ds) rest are = numbers_after-continued 0 d ds rest are.below ∙ ap (λ (k : ℕ). k ∷ numbers_after 0 rest) are.number

digits_strict : (n : ℕ) (ds rest : List ℕ) → AreShortest n ds → is_strict_after false (continued ds ++ rest) ≡ is_strict_after false rest
unfolding is_strict_after
digits_strict n ds rest are = elim are.first [
  | inl e ↦ rw e refl
  | inr some ↦ strict-continued ds rest are.below some
]

digits_small : (n : ℕ) (ds rest : List ℕ) → AreShortest n ds → n < 2 ^ 64 → is_small_after 0 (continued ds ++ rest) ≡ is_small_after 0 rest
digits_small n [] rest are small = elim are.first [ inl e ↦ cc | inr some ↦ absurd (omega arith) ]
digits_small n (d ∷ ds) rest are small =
    let fits : number_from_digits_after 128 0 (d ∷ ds) < 2 ^ 64 = omega (arith, are.number) in
    let above : (ds ≢ [] → 0 < 0 * 128 + d) = λ more. elim are.first [ inl e ↦ absurd (more (cc)) | inr some ↦ omega arith ] in
    small-continued 0 d ds rest are.below above fits

digits_below : (ds : List ℕ) → AllBelowBase 128 ds → AllBelowBase 256 (continued ds)
digits_below [] below = tt
digits_below (d ∷ []) below = (omega (arith, below.0), tt)
digits_below (d ∷ e ∷ ds) below = (omega (arith, below.0), digits_below (e ∷ ds) below.1)

subidentifier_below : (n : ℕ) → AllBelowBase 256 (subidentifier_octets n)
unfolding subidentifier_octets
subidentifier_below n = digits_below (shortest_digits n) (shortest n).below

pub numbers_after-subidentifier : (n : ℕ) (rest : List ℕ) → numbers_after 0 (subidentifier_octets n ++ rest) ≡ n ∷ numbers_after 0 rest
unfolding subidentifier_octets
numbers_after-subidentifier n rest = digits_read n (shortest_digits n) rest (shortest n)

pub strict-subidentifier : (n : ℕ) (rest : List ℕ) → is_strict_after false (subidentifier_octets n ++ rest) ≡ is_strict_after false rest
unfolding subidentifier_octets
strict-subidentifier n rest = digits_strict n (shortest_digits n) rest (shortest n)

pub small-subidentifier : (n : ℕ) (rest : List ℕ) → n < 2 ^ 64 → is_small_after 0 (subidentifier_octets n ++ rest) ≡ is_small_after 0 rest
unfolding subidentifier_octets
small-subidentifier n rest small = digits_small n (shortest_digits n) rest (shortest n) small

-- ---- subidentifiers one after the other

pub numbers_after-content : (ns rest : List ℕ) → numbers_after 0 (content_octets ns ++ rest) ≡ ns ++ numbers_after 0 rest
numbers_after-content [] rest = refl
numbers_after-content (n ∷ ns) rest =
    ap (numbers_after 0) (append_assoc (subidentifier_octets n) (content_octets ns) rest)
    ∙ numbers_after-subidentifier n (content_octets ns ++ rest) ∙ ap (λ (l : List ℕ). n ∷ l) (numbers_after-content ns rest)

pub strict-content : (ns : List ℕ) → is_strict_after false (content_octets ns) ≡ true
unfolding is_strict_after
strict-content [] = refl
strict-content (n ∷ ns) = strict-subidentifier n (content_octets ns) ∙ strict-content ns

pub small-content : (ns : List ℕ) → AllBelowBase (2 ^ 64) ns → is_small_after 0 (content_octets ns) ≡ true
unfolding is_small_after
small-content [] below = refl
small-content (n ∷ ns) below = small-subidentifier n (content_octets ns) below.0 ∙ small-content ns below.1

below-append : (xs ys : List ℕ) → AllBelowBase 256 xs → AllBelowBase 256 ys → AllBelowBase 256 (xs ++ ys)
below-append [] ys below more = more
below-append (x ∷ xs) ys below more = (below.0, below-append xs ys below.1 more)

pub content_below : (ns : List ℕ) → AllBelowBase 256 (content_octets ns)
content_below [] = tt
content_below (n ∷ ns) = below-append (subidentifier_octets n) (content_octets ns) (subidentifier_below n) (content_below ns)

-- a subidentifier has an octet
pub some_octet : (n : ℕ) → subidentifier_octets n ≢ []
unfolding numbers_after
some_octet n e =
    let read = numbers_after-subidentifier n [] in
    let none : numbers_after 0 (subidentifier_octets n ++ []) ≡ [] = rw e refl in
    cc
