-- Values of primitive types: the tag number and the content say all.
use Rattle.std.specs.Prelude.{◌≡◌, ◌≢◌, ℕ, List, Bool, false, Result, Ok, Err}
use Rattle.std.specs.Str.{IsUtf8}
use Rattle.asn1_core.specs.Elements.{Element}
use Rattle.asn1_any.specs.BerElements.{BerElement, element_of_ber}
use Rattle.asn1_core.specs.declared.error.Error.{Error}
use Rattle.asn1_core.specs.declared.error.Error.TheVariants as errors

-- a primitive element of the tag number; its class isn't looked at
pub record IsLeaf (tag : ℕ) (e : Element) : Type 0 where
  pub tag_is : e.tag ≡ tag
  pub primitive : e.constructed ≡ false

-- such an element, whose content means the value
pub record LeafMeans {V : Type 0} (tag : ℕ) (means : List ℕ → V → Type 0) (e : BerElement) (v : V) : Type 0 where
  pub leaf : IsLeaf tag (element_of_ber e)
  pub meant : means e.content v

-- the value holds the content as it is
abbrev pub MeansOctets : {V : Type 0} → (V → List ℕ) → List ℕ → V → Type 0
MeansOctets octets_of content v = octets_of v ≡ content

-- the value holds the content, which is UTF-8
abbrev pub MeansText : {V : Type 0} → (V → List ℕ) → List ℕ → V → Type 0
MeansText octets_of content v = (octets_of v ≡ content) × IsUtf8 content

-- a value of the content, or an error: out of memory only if reading may allocate, any other if
-- there is no value
abbrev pub ReadsContent : {V : Type 0} → Type 0 → (List ℕ → V → Type 0) → List ℕ → Result V Error → Type 0
ReadsContent grows means content (Ok v) = means content v
ReadsContent {V} grows means content (Err e) = (e ≡ errors.OutOfMemory → grows) × (e ≢ errors.OutOfMemory → (v : V) → means content v → ⊥)

-- such an element, whose content DER allows
pub record LeafAllows (tag : ℕ) (Allowed : List ℕ → Type 0) (e : Element) : Type 0 where
  pub leaf : IsLeaf tag e
  pub allowed : Allowed e.content

-- the content is allowed, or an error, never out of memory, says that it isn't
abbrev pub ChecksContent : (List ℕ → Type 0) → List ℕ → Result (Unit {0}) Error → Type 0
ChecksContent allowed content (Ok x) = allowed content
ChecksContent allowed content (Err e) = (e ≢ errors.OutOfMemory) × (allowed content → ⊥)
