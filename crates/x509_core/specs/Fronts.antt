-- A value read from the element at the front of octets, for the traits of readers, and why readers refuse.
use Rattle.std.specs.Prelude.{◌≡◌, ℕ, List, ◌++◌, Result, Ok, Err}
use Rattle.asn1_core.specs.declared.error.Error.TheVariants as der
use Rattle.asn1_core.specs.declared.error.Needed.{Needed}
use Rattle.asn1_core.specs.declared.outcome.Err.{Err as Refusal}
use Rattle.asn1_core.specs.declared.outcome.Err.TheVariants as refusals
use Rattle.asn1_any.specs.Cutting.{Piece}
use Rattle.asn1_any.proofs.DerLaws.{der_once}
use Rattle.asn1_traits.specs.Elements.{EndsWithinElement}
use Rattle.x509_core.specs.Grammar.{One}
use Rattle.x509_core.specs.declared.error.X509Error.{X509Error}
use Rattle.x509_core.specs.declared.error.X509Error.TheVariants as errors

-- octets are missing exactly if the octets end within their first element
abbrev pub TellsMissing : {X : Type 0} → List ℕ → Result X (Refusal X509Error) → Type 0
TellsMissing i (Ok x) = Unit {0}
TellsMissing i (Err (refusals.Incomplete n)) = EndsWithinElement i n
TellsMissing i (Err (refusals.Error e)) = (n : Needed) → EndsWithinElement i n → ⊥
TellsMissing i (Err (refusals.Failure e)) = Unit {0}

-- the octets after a value are those after its element
pub one_rest : {A : Type 0} (M : Piece → A → Type 0) (octets : List ℕ) (v w : A) (r s : List ℕ) → One M octets v r → One M octets w s → r ≡ s
one_rest M octets v w r s left right =
    (der_once octets r s left.piece.element right.piece.element
    (record { front = left.piece.octets; spells = left.spells; whole = left.whole })
    (record { front = right.piece.octets; spells = right.spells; whole = right.whole })).1

-- a refusal of a content as the refusal of its whole element: octets that are missing in it are its
-- fault
abbrev pub IsWithin : Refusal X509Error → Refusal X509Error → Type 0
IsWithin (refusals.Incomplete n) r = r ≡ refusals.Error (errors.Der (der.Incomplete n))
IsWithin (refusals.Error e) r = r ≡ refusals.Error e
IsWithin (refusals.Failure e) r = r ≡ refusals.Failure e

-- no refusal for lack of memory
abbrev pub TakesNoMemory : Refusal X509Error → Type 0
TakesNoMemory (refusals.Incomplete n) = Unit {0}
TakesNoMemory (refusals.Error e) = Unit {0}
TakesNoMemory (refusals.Failure e) = ⊥

-- the octets begin with the window; then come those of its element that were ignored, then the rest
abbrev pub IsWindow : List ℕ → List ℕ → List ℕ → Type 0
IsWindow octets raw rest = (ignored : List ℕ) × (octets ≡ raw ++ (ignored ++ rest))

-- refused by this error, or for lack of memory
abbrev pub IsOnly : X509Error → Refusal X509Error → Type 0
IsOnly name (refusals.Incomplete n) = ⊥
IsOnly name (refusals.Error e) = e ≡ name
IsOnly name (refusals.Failure e) = e ≡ errors.OutOfMemory
