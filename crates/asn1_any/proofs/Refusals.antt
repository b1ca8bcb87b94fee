-- The refusals of the element readers: never for lack of memory; and how many octets are missing.
use Rattle.std.proofs.Common.{◌≡◌, refl, sym, ◌∙◌, ap, subst, ℕ, ◌-◌, ◌<◌, Bool, true, false, List, ◌++◌, length, take, drop, Ok, Err, if◌then◌else◌, arith, length-append, append_assoc, ◌⊎◌, inl, inr}
use Rattle.std.specs.Prelude.{nat_lt}
use Rattle.std.specs.Int.Digits.{AllBelowBase}
use Rattle.std.proofs.lemmas.Bool.{ltb-true, lt-ltb}
use Rattle.asn1_core.specs.declared.error.Error.{Error}
use Rattle.asn1_core.specs.declared.error.Needed.TheVariants as needed
use Rattle.asn1_core.specs.declared.outcome.Err.{Err as Refusal}
use Rattle.asn1_core.specs.declared.outcome.Err.TheVariants as refusals
use Rattle.asn1_core.specs.Strict.{Head}
use Rattle.asn1_core.specs.Elements.{Element}
use Rattle.asn1_core.specs.Answers.{Answer, lack, then_read}
use Rattle.asn1_core.specs.Missing.{IsMissing}
use Rattle.asn1_core.specs.Reading.{header_at}
use Rattle.asn1_core.proofs.Cases.{two_steps}
use Rattle.asn1_core.proofs.Headers.{header_found, header_again}
use Rattle.asn1_core.proofs.Refusals.{IsRefused, header_refused}
use Rattle.asn1_any.specs.DerElements.{HasElement, element_of}
use Rattle.asn1_any.specs.Reading.{part_at, content_at, der_element_at}
use Rattle.asn1_any.proofs.DerLaws.{der_only}

-- a reading in two steps that was refused was refused at one of them
pub refused_steps : {A B : Type 0} (first : Answer A) (f : A → List ℕ → Answer B) (e : Refusal Error) → then_read first f ≡ Err e
    → (first ≡ Err e) ⊎ ((x : A × List ℕ) × (first ≡ Ok x) × (f x.0 x.1 ≡ Err e))
refused_steps (Ok x) f e given = inr (x, refl, given)
refused_steps (Err d) f e given = let same : d ≡ e = cc in inl (ap (λ r. Err r) same)

-- what is refused at the first step is refused at both
pub first_refused : {A B : Type 0} (first : List ℕ → Answer A) (f : A → List ℕ → Answer B) (octets : List ℕ) (e : Refusal Error) → IsRefused first octets e →
    IsRefused (λ o. then_read (first o) f) octets e
first_refused first f octets (refusals.Incomplete needed.Unknown) refused = refused
first_refused first f octets (refusals.Incomplete (needed.Size n)) refused =
    (refused.0, λ more few y again. let steps = two_steps (first (octets ++ more)) f y again in refused.1 more few steps.0 steps.1)
first_refused first f octets (refusals.Error e) refused = refused
first_refused first f octets (refusals.Failure e) refused = refused

pub record IsCut (n : ℕ) (octets : List ℕ) (e : Refusal Error) : Type 0 where
  pub short : length octets < n
  pub is : e ≡ refusals.Incomplete (needed.Size (n - length octets))

cut_by : (b : Bool) (n : ℕ) (octets : List ℕ) (e : Refusal Error) → nat_lt (length octets) n ≡ b →
    (if b then lack {A = List ℕ} (n - length octets) else Ok (take n octets, drop n octets)) ≡ Err e → IsCut n octets e
cut_by true n octets e short given = record { short = ltb-true (length octets) n short; is = cc }
cut_by false n octets e short given = cc

pub part_refused : (n : ℕ) (octets : List ℕ) (e : Refusal Error) → part_at n octets ≡ Err e → IsCut n octets e
part_refused n octets e given = cut_by (nat_lt (length octets) n) n octets e refl given

-- too few octets stay too few
pub part_cut : (n : ℕ) (octets : List ℕ) → length octets < n → part_at n octets ≡ lack (n - length octets)
part_cut n octets short = let test : nat_lt (length octets) n ≡ true = lt-ltb (length octets) n short in rw test refl

content_refused : (octets after : List ℕ) (h : Head) (e : Refusal Error) → AllBelowBase 256 octets → header_at octets ≡ Ok (h, after) → part_at h.size after ≡ Err e → IsRefused der_element_at octets e
unfolding der_element_at
content_refused octets after h e below first second =
    let cut = part_refused h.size after e second in
    let short = cut.short in
    let begins = header_found octets h after below first in
    let stays : (more : List ℕ) → length more < h.size - length after → (y : Element × List ℕ) → der_element_at (octets ++ more) ≡ Ok y → ⊥ = λ more few y again.
    let longer : header_at (octets ++ more) ≡ Ok (h, after ++ more) =
    ap header_at (ap (λ z. z ++ more) begins.whole ∙ append_assoc begins.front after more) ∙ header_again begins.front h (after ++ more) begins.head begins.spells in
    let lacking = part_cut h.size (after ++ more) (omega (arith, length-append after more)) in
    let none : der_element_at (octets ++ more) ≡ lack (h.size - length (after ++ more)) = rw (longer, lacking) refl in
    cc in
    subst (IsRefused der_element_at octets) (sym cut.is) (let some : 0 < h.size - length after = omega arith in some, stays)

behind_refused : (octets : List ℕ) (e : Refusal Error) (x : Head × List ℕ) → AllBelowBase 256 octets → header_at octets ≡ Ok x → content_at x.0 x.1 ≡ Err e → IsRefused der_element_at octets e
behind_refused octets e x below first second =
    elim (refused_steps (part_at x.0.size x.1) (λ content rest. (let r : Answer Element = Ok (element_of x.0 content, rest) in r)) e second) [
      | inl part ↦ content_refused octets x.1 x.0 e below first part
      | inr none ↦ (let bad = none.2 in cc)
    ]

pub element_refused : (octets : List ℕ) (e : Refusal Error) → AllBelowBase 256 octets → der_element_at octets ≡ Err e → IsRefused der_element_at octets e
unfolding der_element_at
element_refused octets e below read =
    elim (refused_steps (header_at octets) content_at e read) [
      | inl first ↦ first_refused header_at content_at octets e (header_refused octets e below first)
      | inr second ↦ behind_refused octets e second.0 below second.1 second.2
    ]

pub element_missing : (octets : List ℕ) (e : Refusal Error) → IsRefused der_element_at octets e → IsMissing HasElement octets e
element_missing octets (refusals.Incomplete needed.Unknown) refused = refused
element_missing octets (refusals.Incomplete (needed.Size n)) refused = (refused.0, λ more few has. refused.1 more few (has.0, has.1) (der_only (octets ++ more) has.1 has.0 has.2))
element_missing octets (refusals.Error e) refused = tt
element_missing octets (refusals.Failure e) refused = tt
