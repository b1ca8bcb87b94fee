-- Why a value of an extension is none of its type, as far as the error that is held of it says.
use Rattle.std.specs.Prelude.{◌≡◌, ℕ, List, [], ◌∷◌}
use Rattle.asn1_core.specs.Elements.{Element}
use Rattle.asn1_core.specs.declared.error.Error.{Error}
use Rattle.asn1_core.specs.declared.error.Error.TheVariants as der
use Rattle.asn1_core.specs.declared.error.Needed.{Needed}
use Rattle.asn1_core.specs.declared.outcome.Err.{Err as Refusal}
use Rattle.asn1_core.specs.declared.outcome.Err.TheVariants as refusals
use Rattle.asn1_traits.specs.Elements.{EndsWithinElement}
use Rattle.x509_core.specs.Grammar.{One}
use Rattle.x509_core.specs.Leaves.{IsAny}
use Rattle.x509_ext_basic.specs.Leaves.{AnySequence, IsNoConstraints, Enumerated, IsReason}
use Rattle.x509_ext_parse.specs.Kinds.{identifier_of}
use Rattle.x509_ext_parse.specs.declared.kind.Kind.{Kind}
use Rattle.x509_ext_parse.specs.declared.kind.Kind.TheVariants as kinds

-- octets are missing exactly if the value ends within its first element
abbrev pub IsCutOff : List ℕ → Refusal Error → Type 0
IsCutOff value (refusals.Incomplete n) = EndsWithinElement value n
IsCutOff value (refusals.Error e) = (n : Needed) → EndsWithinElement value n → ⊥
IsCutOff value (refusals.Failure e) = ⊥

-- BasicConstraints (RFC 5280, 4.2.1.9): a sequence that holds anything else is refused by its tag if that is one element, by its
-- length if it is several
pub record IsConstraintsFault (value : List ℕ) (e : Refusal Error) : Type 0 where
  pub cut : IsCutOff value e
  pub tag : (content rest : List ℕ) (inner : Element) → AnySequence value content rest → IsNoConstraints content → One IsAny content inner [] → e ≡ refusals.Error der.InvalidTag
  pub length :
      (content rest : List ℕ) (inner : Element) (x : ℕ) (left : List ℕ) → AnySequence value content rest → IsNoConstraints content
      → One IsAny content inner (x ∷ left) → e ≡ refusals.Error der.InvalidLength

-- CRLReason (RFC 5280, 5.3.1): an ENUMERATED of another content
pub record IsReasonFault (value : List ℕ) (e : Refusal Error) : Type 0 where
  pub cut : IsCutOff value e
  pub content : (content rest : List ℕ) → Enumerated value content rest → ((n : ℕ) → IsReason content n → ⊥) → e ≡ refusals.Error der.BerValueError

-- why a value of a kind is refused; of four kinds nothing is said
abbrev pub FaultOf : Kind → List ℕ → Refusal Error → Type 0
FaultOf kinds.BasicConstraints = IsConstraintsFault
FaultOf kinds.ReasonCode = IsReasonFault
FaultOf kinds.IssuingDistributionPoint = λ value e. Unit {0}
FaultOf kinds.CertificatePolicies = λ value e. Unit {0}
FaultOf kinds.SCT = λ value e. Unit {0}
FaultOf kinds.NsCertComment = λ value e. Unit {0}
FaultOf kind = IsCutOff

-- of a known identifier
abbrev pub IsFaultOf : List ℕ → List ℕ → Refusal Error → Type 0
IsFaultOf identifier value e = (kind : Kind) → identifier ≡ identifier_of kind → FaultOf kind value e
