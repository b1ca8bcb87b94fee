-- What the readers of machine integers answer, as functions.
use Rattle.std.proofs.Common.{arith, ◌≡◌, ◌≢◌, ◌∙◌, ◌↔◌, refl, sym, ap, subst, ℕ, ◌+◌, ◌^◌, ◌<◌, ◌≤◌, ℤ, Bool, true, false, if◌then◌else◌, List, [], ◌∷◌, Option, Some, None, Result, Ok, Err}
use Rattle.std.specs.Prelude.{IsTrue, nat_lt, not, ◌==◌, ◌&&◌}
use Rattle.std.proofs.Common.{lt-ltb, le-ltb}
use Rattle.std.proofs.lemmas.Bool.{ltb-true, ltb-false, eqb-true, eq-eqb}
use Rattle.asn1_core.specs.declared.error.Error.{Error}
use Rattle.asn1_traits.specs.Integers.{twos_complement, SpellsInteger, IsShortest, size_of}
use Rattle.asn1_traits.specs.IntegerLaws.{IntegerMeans}
use Rattle.asn1_traits.specs.IntegerReading.{fitting, integer_at, is_shortest, GivesInteger}
use Rattle.asn1_traits.specs.Wholes.{FitsWhole}

-- the test and the range are one
abbrev pub Tests : (ℤ → Bool) → (ℤ → Type 0) → Type 0
Tests fits InRange = (z : ℤ) → IsTrue (fits z) ↔ InRange z

fits_by : (b : Bool) (z : ℤ) → b ≡ true → (let r : Option ℤ = if b then Some z else None in r) ≡ Some z
fits_by true z e = refl
fits_by false z e = cc

fits_none : (b : Bool) (z : ℤ) → (b ≡ true → ⊥) → (let r : Option ℤ = if b then Some z else None in r) ≡ None
fits_none true z e = absurd (e refl)
fits_none false z e = refl

pub number_at : (fits : ℤ → Bool) (InRange : ℤ → Type 0) (content : List ℕ) (z : ℤ) → Tests fits InRange → SpellsInteger content z → InRange z → integer_at fits content ≡ Some z
number_at fits InRange [] z t s r = absurd (s.some refl)
number_at fits InRange (x ∷ xs) z t s r = ap (fitting fits) s.value ∙ fits_by (fits z) z ((t z).1 r)

pub none_at : (fits : ℤ → Bool) (InRange : ℤ → Type 0) (content : List ℕ) → Tests fits InRange → (InRange (twos_complement content) → ⊥) → integer_at fits content ≡ None
none_at fits InRange [] t out = refl
none_at fits InRange (x ∷ xs) t out = fits_none (fits (twos_complement (x ∷ xs))) (twos_complement (x ∷ xs)) (λ h. out ((t (twos_complement (x ∷ xs))).0 h))

taken : (b : Bool) (z w : ℤ) → (let r : Option ℤ = if b then Some z else None in r) ≡ Some w → (b ≡ true) × (z ≡ w)
taken true z w e = (refl, cc)
taken false z w e = cc

pub at_number : (fits : ℤ → Bool) (InRange : ℤ → Type 0) (content : List ℕ) (z : ℤ) → Tests fits InRange → integer_at fits content ≡ Some z → SpellsInteger content z × InRange z
at_number fits InRange [] z t e = cc
at_number fits InRange (x ∷ xs) z t e =
    let is = taken (fits (twos_complement (x ∷ xs))) (twos_complement (x ∷ xs)) z e in
    (record { some = λ h. cc; value = is.1 }, subst InRange is.1 ((t (twos_complement (x ∷ xs))).0 is.0))

-- the type's value of a number that was read
pub from_exact : {V : Type 0} (number : V → ℤ) (fits : ℤ → Bool) (InRange : ℤ → Type 0) (content : List ℕ) (z : ℤ) (r : Result V Error) → Tests fits InRange → SpellsInteger content z → FitsWhole number InRange z r → GivesInteger number r (integer_at fits content)
from_exact number fits InRange content z (Ok v) t s f = number_at fits InRange content z t s f.1 ∙ ap (λ (k : ℤ). Some k) (sym f.0)
from_exact number fits InRange content z (Err e) t s f = none_at fits InRange content t (λ h. f.1 (subst InRange s.value h))

-- no octet that is redundant
short_by : (a b c : Bool) → IsTrue (not (a && b) && not (c && not b)) ↔ (((a ≡ true) × (b ≡ true) → ⊥) × ((c ≡ true) × (b ≡ false) → ⊥))
short_by true true c = ((λ h. cc), (λ h. absurd (h.0 (refl, refl))))
short_by true false true = ((λ h. cc), (λ h. absurd (h.1 (refl, refl))))
short_by true false false = ((λ h. ((λ e. cc), (λ e. cc))), (λ h. refl))
short_by false true true = ((λ h. ((λ e. cc), (λ e. cc))), (λ h. refl))
short_by false true false = ((λ h. ((λ e. cc), (λ e. cc))), (λ h. refl))
short_by false false true = ((λ h. cc), (λ h. absurd (h.1 (refl, refl))))
short_by false false false = ((λ h. ((λ e. cc), (λ e. cc))), (λ h. refl))

pub shortest_test : (content : List ℕ) → IsTrue (is_shortest content) ↔ IsShortest content
shortest_test [] = ((λ h. cc), (λ h. absurd h))
shortest_test (x ∷ []) = ((λ h. tt), (λ h. refl))
shortest_test (x ∷ y ∷ xs) =
    let by = short_by (x == 0) (nat_lt y 128) (x == 255) in (
      (λ h. let s = by.0 h in ((λ e. s.0 (eq-eqb x 0 e.0, lt-ltb y 128 e.1)), (λ e. s.1 (eq-eqb x 255 e.0, le-ltb y 128 e.1)))),
      (λ h. by.1 ((λ e. h.0 (eqb-true x 0 e.0, ltb-true y 128 e.1)), (λ e. h.1 (eqb-true x 255 e.0, ltb-false y 128 e.1)))),
    )
