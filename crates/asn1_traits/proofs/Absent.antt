-- That an optional value is neither read nor absent.
use Rattle.std.proofs.Common.{arith, ◌≡◌, ◌≢◌, ◌⊎◌, inl, inr, refl, ℕ, ◌==◌, true, false, length, Option, Some, None, List, [], ◌∷◌, ◌++◌, subst, ◌<◌}
use Rattle.std.proofs.lemmas.Bool.Decides.{nat_tests}
use Rattle.asn1_core.proofs.Numbers.{empty_of}
use Rattle.asn1_core.specs.declared.error.Error.{Error}
use Rattle.asn1_core.specs.declared.error.Needed.{Needed}
use Rattle.asn1_core.specs.declared.error.Needed.TheVariants as needed
use Rattle.asn1_core.specs.declared.outcome.Err.{Err as Refusal}
use Rattle.asn1_core.specs.declared.outcome.Err.TheVariants as refusals
use Rattle.asn1_core.specs.Missing.{IsMissing}
use Rattle.asn1_traits.specs.Reads.{RefusesAt, NoneReads, Lacks}
use Rattle.asn1_traits.specs.Options.{IsAbsent, OptionReads, OptionCut}
use Rattle.asn1_traits.specs.OptionLaws.{AreHeaders, not_both}

pub not_empty : (xs : List ℕ) → (length xs == 0) ≡ false → xs ≢ []
not_empty [] h = λ e. cc
not_empty (x ∷ xs) h = λ e. cc

pub empty_is : (xs : List ℕ) → (length xs == 0) ≡ true → xs ≡ []
empty_is xs h = empty_of xs (grind (arith, nat_tests))

-- a header of the wanted tag number begins the octets, and no value
pub none_present : {V : Type 0} (Begins : List ℕ → ℕ → Type 0) (tag : ℕ) (reads : List ℕ → V → List ℕ → Type 0) (octets : List ℕ) → AreHeaders Begins →
    Begins octets tag → NoneReads reads octets → NoneReads (OptionReads Begins tag reads) octets
none_present Begins tag reads octets h p none (Some v) rest q = none v rest q.1
none_present Begins tag reads octets h p none None rest q = not_both Begins tag octets h p q.0

-- octets, but no header, begin the octets
pub none_headed : {V : Type 0} (Begins : List ℕ → ℕ → Type 0) (tag : ℕ) (reads : List ℕ → V → List ℕ → Type 0) (octets : List ℕ) → octets ≢ [] →
    ((n : ℕ) → Begins octets n → ⊥) → NoneReads (OptionReads Begins tag reads) octets
none_headed Begins tag reads octets some none (Some v) rest q = none tag q.0
none_headed Begins tag reads octets some none None rest (inl e, same) = some e
none_headed Begins tag reads octets some none None rest (inr o, same) = none o.0 o.2

still_some : (octets more : List ℕ) → octets ≢ [] → octets ++ more ≢ []
still_some [] more some = λ e. some refl
still_some (x ∷ octets) more some = λ e. cc

-- octets are missing of a value that comes after a header of the wanted tag number
lacks_present : {V : Type 0} (Begins : List ℕ → ℕ → Type 0) (tag : ℕ) (reads : List ℕ → V → List ℕ → Type 0) (octets : List ℕ) (n : Needed) → AreHeaders Begins →
    Begins octets tag → Lacks reads octets n → Lacks (OptionReads Begins tag reads) octets n
lacks_present Begins tag reads octets needed.Unknown h p lacks = absurd lacks
lacks_present Begins tag reads octets (needed.Size n) h p lacks = (lacks.0, λ more short. none_present Begins tag reads (octets ++ more) h (h.more octets more tag p) (lacks.1 more short))

-- what a present value's reader refuses
pub present_refused : {V E : Type 0} (gives : Error → E → Type 0) (grows : Type 0) (Ends : List ℕ → Needed → Type 0) (Begins : List ℕ → ℕ → Type 0) (tag : ℕ) (Cut : List ℕ → Needed → Type 0) (reads : List ℕ → V → List ℕ → Type 0)
    (octets : List ℕ) (r : Refusal E) → AreHeaders Begins → octets ≢ [] → Begins octets tag → ((n : Needed) → Ends octets n → ⊥) → RefusesAt gives grows Cut reads octets r → RefusesAt gives grows (OptionCut Ends Begins tag Cut) (OptionReads Begins tag reads) octets r
present_refused gives grows Ends Begins tag Cut reads octets (refusals.Incomplete n) h some p whole is = ((some, inr (p, is.0)), lacks_present Begins tag reads octets n h p is.1)
present_refused gives grows Ends Begins tag Cut reads octets (refusals.Error e) h some p whole is =
    (none_present Begins tag reads octets h p is.0, is.1, λ n cut. elim cut.1 [ inl ends ↦ whole n ends | inr within ↦ is.2 n within.1 ])
present_refused gives grows Ends Begins tag Cut reads octets (refusals.Failure e) h some p whole is = is

-- octets are missing of a header
pub lacks_header : {V : Type 0} (Has : List ℕ → Type 0) (Begins : List ℕ → ℕ → Type 0) (tag : ℕ) (reads : List ℕ → V → List ℕ → Type 0) (octets : List ℕ) (given : Refusal Error) (n : Needed) → octets ≢ [] →
    ((more : List ℕ) (m : ℕ) → Begins (octets ++ more) m → Has (octets ++ more)) → IsMissing Has octets given → given ≡ refusals.Incomplete n → Lacks (OptionReads Begins tag reads) octets n
lacks_header Has Begins tag reads octets given needed.Unknown some has missing is = let P : Refusal Error → Type 0 = λ z. IsMissing Has octets z in absurd (subst P is missing)
lacks_header Has Begins tag reads octets given (needed.Size n) some has missing is =
    let P : Refusal Error → Type 0 = λ z. IsMissing Has octets z in
    let told = subst P is missing in
    (told.0, λ more short. none_headed Begins tag reads (octets ++ more) (still_some octets more some) (λ m begins. told.1 more short (has more m begins)))
