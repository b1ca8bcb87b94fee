-- A closure that is passed the content of an element.
use Rattle.std.specs.Prelude.{◌≡◌, ◌≢◌, ◌⊎◌, ℕ, List, ◌∷◌, ◌++◌, length, Result, Ok, Err}
use Rattle.std.specs.Borrow.{Bor}
use Rattle.asn1_core.specs.declared.error.Error.{Error}
use Rattle.asn1_core.specs.declared.error.Error.TheVariants as errors
use Rattle.asn1_core.specs.declared.header.Header.{Header}
use Rattle.asn1_core.specs.declared.outcome.Err.{Err as Refusal}
use Rattle.asn1_core.specs.declared.outcome.Err.TheVariants as refusals
use Rattle.asn1_core.specs.Elements.{Element, head_of_element}
use Rattle.asn1_core.specs.Missing.{IsMissing}
use Rattle.asn1_core.specs.Views.{head_of, length_of}
use Rattle.asn1_core.specs.declared.length.Length.TheVariants.{Definite}
use Rattle.der_tree.specs.declared.object.BerObject.{BerObject}
use Rattle.der_tree.specs.declared.object.BerObjectContent.{BerObjectContent}
use Rattle.der_tree.specs.Lengths.{lengths_told, lengths_within}
use Rattle.der_tree.specs.Tree.{node}
use Rattle.der_tree.specs.View.{view, content_view}
use Rattle.der_parser.specs.Refusals.{tagged_at}
use Rattle.der_parser.specs.Tagged.{IsTagged, HasTagged}

-- the octets begin with an element of this tag number, and the rest comes after it; `Called` says
-- what became of its whole content, of its header and of all its octets
pub record Handed (n : ℕ) (Called : List ℕ → Bor (List ℕ) → Header → Type 0) (octets rest : List ℕ) : Type 0 where
  pub front : List ℕ
  pub element : Element
  pub is : IsTagged n front element
  pub whole : octets ≡ front ++ rest
  pub header : Header
  pub head : head_of header ≡ head_of_element element
  pub told : length_of header ≡ Definite (length element.content)
  pub content : Bor (List ℕ)
  pub held : content.now ≡ element.content
  pub called : Called front content header

-- no such element begins the octets, or some are missing: the error is that of the element; memory
-- didn't run out
abbrev pub Unwanted : {E : Type 0} → (Error → E → Type 0) → ℕ → List ℕ → Refusal E → Type 0
Unwanted gives n octets (refusals.Incomplete m) = (HasTagged n octets → ⊥) × IsMissing (HasTagged n) octets (refusals.Incomplete m) × (tagged_at n octets ≡ Err (refusals.Incomplete m))
Unwanted gives n octets (refusals.Error x) = (HasTagged n octets → ⊥) × ((e : Error) × (e ≢ errors.OutOfMemory) × gives e x × (tagged_at n octets ≡ Err (refusals.Error e)))
Unwanted gives n octets (refusals.Failure x) = ⊥

-- the closure is passed content and header; its value is returned before the octets after the
-- element, and its error unchanged
abbrev pub HandsOver : {O E : Type 0} → (Error → E → Type 0) → ℕ → (Bor (List ℕ) → Header → Result (Bor (List ℕ) × O) (Refusal E) → Type 0) → List ℕ → Result (Bor (List ℕ) × O) (Refusal E) → Type 0
HandsOver gives n post octets (Ok p) = Handed n (λ front content header. (left : Bor (List ℕ)) × post content header (Ok (left, p.1))) octets p.0.now
HandsOver gives n post octets (Err e) = ((rest : List ℕ) × Handed n (λ front content header. post content header (Err e)) octets rest) ⊎ Unwanted gives n octets e

-- a closure that reads an object's content is passed content and header: the object has the
-- element's header, the length in it, and the element's octets
abbrev pub HandsObject : {E : Type 0} → (Error → E → Type 0) → ℕ → (Bor (List ℕ) → Header → Result (Bor (List ℕ) × BerObjectContent) (Refusal E) → Type 0) → List ℕ → Result (Bor (List ℕ) × BerObject) (Refusal E) → Type 0
HandsObject gives n post octets (Ok p) =
    Handed n (λ front content header. (left : Bor (List ℕ)) × (held : BerObjectContent) × post content header (Ok (left, held))
    × (view p.1 ≡ node (head_of header) front (content_view held)) × (lengths_told p.1 ≡ length_of header ∷ lengths_within held)) octets p.0.now
HandsObject gives n post octets (Err e) = ((rest : List ℕ) × Handed n (λ front content header. post content header (Err e)) octets rest) ⊎ Unwanted gives n octets e
