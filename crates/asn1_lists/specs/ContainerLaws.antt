-- A sequence or a set that keeps its content has the laws: what is written is one element, and is
-- read back.
use Rattle.std.proofs.Common.{◌≡◌, ◌^◌, ◌<◌, ◌∙◌, refl, ap, ℕ, List, ◌++◌, Some, lit<}
use Rattle.asn1_core.specs.Elements.{Element, IsElement}
use Rattle.asn1_any.proofs.DerLaws.{strict_begins}
use Rattle.asn1_traits.specs.Reads.{AndAllowed}
use Rattle.asn1_traits.specs.Elements.{ReadsElement}
use Rattle.asn1_traits.specs.LeafLaws.{short_element, same_element}
use Rattle.asn1_traits.specs.Writes.{written, IsLong, IsOneElement}
use Rattle.asn1_lists.specs.Containers.{container, HoldsContent}

-- how such a value is read
abbrev pub ReadsContent : {V : Type 0} → ℕ → (V → List ℕ) → List ℕ → V → List ℕ → Type 0
ReadsContent tag octets_of = ReadsElement (AndAllowed (HoldsContent tag octets_of) (λ _. Unit {0}))

pub container_one : (tag : ℕ) (content : List ℕ) → tag < 2 ^ 32 → IsOneElement (Some (container tag content))
container_one tag content low = (lit< tt, low)

container_range : (tag : ℕ) (content : List ℕ) → tag < 2 ^ 32 → (IsLong (written (Some (container tag content))) → ⊥) → IsElement (container tag content)
container_range tag content low short = short_element (container tag content) (lit< tt) low short

-- read back before any rest
pub container_back : {V : Type 0} (tag : ℕ) → tag < 2 ^ 32 → (octets_of : V → List ℕ) (v : V) (rest : List ℕ) → (IsLong (written (Some (container tag (octets_of v)))) → ⊥) →
    (w : V) × ReadsContent tag octets_of (written (Some (container tag (octets_of v))) ++ rest) w rest
container_back tag low octets_of v rest short =
    let e = container tag (octets_of v) in (
      v,
      record {
        element = e;
        begins = strict_begins e rest (container_range tag (octets_of v) low short);
        meant = (record { is_container = record { class_is = refl; constructed = refl; tag_is = refl }; held = refl }, tt);
      },
    )

-- whatever is read back is an equal element
pub container_same : {V : Type 0} (tag : ℕ) → tag < 2 ^ 32 → (octets_of : V → List ℕ) (v w : V) (rest r : List ℕ) → (IsLong (written (Some (container tag (octets_of v)))) → ⊥) →
    ReadsContent tag octets_of (written (Some (container tag (octets_of v))) ++ rest) w r → Some (container tag (octets_of w)) ≡ Some (container tag (octets_of v))
container_same tag low octets_of v w rest r short read =
    let e = container tag (octets_of v) in
    let is : read.element ≡ e = same_element e read.element rest r (container_range tag (octets_of v) low short) read.begins in
    let held : octets_of w ≡ octets_of v = read.meant.0.held ∙ ap (λ (f : Element). f.content) is in
    ap (λ (z : List ℕ). Some (container tag z)) held
