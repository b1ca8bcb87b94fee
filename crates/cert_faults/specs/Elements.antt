-- The first fault of the elements of octets that don't begin with a DER object of at most k levels (X.690, 8, 10 and 11).
use Rattle.std.specs.Prelude.{◌≡◌, ◌≢◌, ℕ, ◌-◌, ◌==◌, ◌||◌, zero, suc, List, [], ◌++◌, length, Bool, true, false, if◌then◌else◌, Ok, Err}
use Rattle.asn1_core.specs.Elements.{Element}
use Rattle.asn1_core.specs.declared.error.Error.{Error}
use Rattle.asn1_core.specs.declared.error.Error.TheVariants as errors
use Rattle.asn1_core.specs.declared.outcome.Err.{Err as Refusal}
use Rattle.asn1_core.specs.declared.outcome.Err.TheVariants as refusals
use Rattle.der_tree.specs.Outcome.{cut_at}
use Rattle.der_tree.specs.Tree.{Tree, Content, Trees, octets, all_octets}
use Rattle.der_tree.specs.Shape.{IsObject, IsContent, AreObjects, BeginsWithObject}
use Rattle.cert_faults.specs.declared.places.Expected.{Expected}
use Rattle.cert_faults.specs.declared.places.Expected.TheVariants as wants
use Rattle.cert_faults.specs.declared.steps.Place.{Place}
use Rattle.cert_faults.specs.declared.steps.Blame.{Blame}
use Rattle.cert_faults.specs.Steps.{unlike, left_after}

-- what a header that is refused lacks
abbrev pub header_wants : Refusal Error → Expected
header_wants (refusals.Incomplete missing) = wants.WholeElement
header_wants (refusals.Error errors.InvalidTag) = wants.ShortTag
header_wants (refusals.Error errors.InvalidLength) = wants.ShortLength
header_wants (refusals.Error _) = wants.DefiniteLength
header_wants (refusals.Failure _) = wants.DefiniteLength

-- what the content of an element must be, by its tag number, if it isn't that
abbrev pub content_wants : Element → Expected
content_wants e =
    if e.constructed then wants.Primitive else
    if e.tag == 1 then wants.BooleanContent else
    if e.tag == 2 then wants.IntegerContent else
    if e.tag == 3 then wants.BitStringContent else
    if e.tag == 5 then wants.NullContent else
    if e.tag == 6 || e.tag == 13 then wants.IdentifierContent else
    if e.tag == 10 then wants.EnumeratedContent else
    if e.tag == 16 || e.tag == 17 then wants.Constructed else
    if e.tag == 23 || e.tag == 24 then wants.TimeContent else
    if e.tag == 0 then wants.NoEndOfContents else wants.Characters

-- a constructed SEQUENCE or SET
abbrev pub is_holder : Element → Bool
is_holder e = if e.constructed then if e.class == 0 then e.tag == 16 || e.tag == 17 else false else false

-- how an element that begins octets fails, `Inner` saying how the octets of a part do
pub data IsElementFault (k : ℕ) (Inner : List ℕ → ℕ → Blame → Type 0) (place : Place) (s : List ℕ) (n : ℕ) (b : Blame) : Type 0 where
  -- no strict header begins them, or the element doesn't end within them
  header : (e : Refusal Error) → cut_at s ≡ Err e → b ≡ unlike place (header_wants e) n → IsElementFault k Inner place s n b
  -- an element does that has no parts, and doesn't hold what its tag wants
  content : (e : Element) → (rest : List ℕ) → cut_at s ≡ Ok (e, rest) → is_holder e ≡ false → ((c : Content) → IsContent k e c → ⊥) →
      b ≡ unlike place (content_wants e) n → IsElementFault k Inner place s n b
  -- a SEQUENCE or a SET does whose parts are objects up to one that isn't
  part : (e : Element) → (rest : List ℕ) → (ts : Trees) → (others : List ℕ) → cut_at s ≡ Ok (e, rest) → is_holder e ≡ true → AreObjects k ts →
      e.content ≡ all_octets ts ++ others → others ≢ [] → (BeginsWithObject k others → ⊥) →
      Inner others (n - (length s - length rest - length others)) b → IsElementFault k Inner place s n b

-- The fault of the first element that isn't as it must be. If no level is left, that is any element.
unfoldable pub IsBroken : ℕ → Place → List ℕ → ℕ → Blame → Type 0
IsBroken zero place s n b = b ≡ unlike place wants.FewLevels n
IsBroken (suc k) place s n b = IsElementFault k (IsBroken k place) place s n b

-- Octets that aren't one object of at most 50 levels, or one that isn't as `Inner` wants.
pub data IsObjectFault (Inner : Tree → Blame → Type 0) (place : Place) (s : List ℕ) (n : ℕ) (b : Blame) : Type 0 where
  elements : (BeginsWithObject 50 s → ⊥) → IsBroken 50 place s n b → IsObjectFault Inner place s n b
  rest : (t : Tree) → (others : List ℕ) → IsObject 50 t → s ≡ octets t ++ others → others ≢ [] → b ≡ unlike place wants.NothingMore (left_after n t) →
      IsObjectFault Inner place s n b
  inner : (t : Tree) → IsObject 50 t → octets t ≡ s → Inner t b → IsObjectFault Inner place s n b
