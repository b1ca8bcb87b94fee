-- Which error comes: that of the header, else of another tag number, else of missing content
-- octets, else the error of the content.
use Rattle.std.specs.Prelude.{◌≡◌, ◌==◌, ℕ, if◌then◌else◌, List, Some, Result, Ok, Err, IfErr, IsErrAnd}
use Rattle.asn1_core.specs.Answers.{Answer, refuse, then_read}
use Rattle.asn1_core.specs.Elements.{Element}
use Rattle.asn1_core.specs.Reading.{header_at}
use Rattle.asn1_core.specs.declared.error.Error.{Error}
use Rattle.asn1_core.specs.declared.error.Error.TheVariants as errors
use Rattle.asn1_core.specs.declared.outcome.Err.{Err as Refusal}
use Rattle.asn1_core.specs.declared.outcome.Err.TheVariants as refusals
use Rattle.asn1_any.specs.Reading.{content_at}

-- an element of this tag number, with the octets after it
abbrev pub tagged_at : ℕ → List ℕ → Answer Element
tagged_at n octets =
    then_read (header_at octets) (λ h after.
    if h.tag == n then content_at h after else refuse (errors.UnexpectedTag (Some (record { 0 = n })) (record { 0 = h.tag })))

-- what is read of the element at the front: if it isn't there, its error; if it is whole, no error
-- but this one
abbrev pub ReadsWhole : {X : Type 0} → (Element → Error) → Answer Element → Result X (Refusal Error) → Type 0
ReadsWhole error (Ok p) result = IfErr result (λ e. e ≡ refusals.Error (error p.0))
ReadsWhole error (Err x) result = IsErrAnd result (λ e. e ≡ x)

-- the error of a BOOLEAN of BER that isn't one octet
abbrev pub ber_boolean_error : Element → Error
ber_boolean_error e = if e.constructed then errors.ConstructUnexpected else errors.InvalidLength
