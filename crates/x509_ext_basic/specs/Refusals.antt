-- Which errors readers return.
use Rattle.std.specs.Prelude.{◌≡◌, ℕ, List, [], ◌∷◌, Ok, Err}
use Rattle.asn1_core.specs.Elements.{Element}
use Rattle.asn1_core.specs.declared.error.Error.{Error}
use Rattle.asn1_core.specs.declared.error.Error.TheVariants as der
use Rattle.asn1_core.specs.declared.outcome.Err.{Err as Refusal}
use Rattle.asn1_core.specs.declared.outcome.Err.TheVariants as refusals
use Rattle.x509_core.specs.Answers.{Answer}
use Rattle.x509_core.specs.declared.error.X509Error.{X509Error}
use Rattle.x509_core.specs.declared.error.X509Error.TheVariants as errors
use Rattle.x509_ext_basic.specs.Reading.{any_at}

-- if the part is there, by an error that it returns
abbrev pub ToldAs : {A : Type 0} → (A → Error) → Answer A → Refusal X509Error → Type 0
ToldAs error (Ok part) e = e ≡ refusals.Error (errors.Der (error part))
ToldAs error (Err why) e = Unit {0}

-- no reason
abbrev pub no_reason : {A : Type 0} → A → Error
no_reason part = der.BerValueError

-- one element alone, or not
abbrev pub fault_by : Answer (Element × List ℕ) → Error
fault_by (Ok (e, [])) = der.InvalidTag
fault_by (Ok (e, x ∷ s)) = der.InvalidLength
fault_by (Err why) = der.InvalidLength

abbrev pub fault_in : List ℕ → Error
fault_in content = fault_by (any_at content)

abbrev pub fault_before : List ℕ × List ℕ → Error
fault_before r = fault_in r.0
