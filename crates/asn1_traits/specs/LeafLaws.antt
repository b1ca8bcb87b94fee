-- That primitive types are lawful: what is written is one element, and is read back.
use Rattle.std.proofs.Common.{arith, ◌≡◌, ◌+◌, ◌^◌, ◌<◌, ◌≤◌, refl, subst, ℕ, List, ◌++◌, length, Option, Some, false, length-append, lit<}
use Rattle.asn1_core.specs.Strict.{strict_header}
use Rattle.asn1_core.specs.Elements.{Element, head_of_element, IsElement, element_octets}
use Rattle.asn1_any.specs.DerElements.{BeginsWithElement}
use Rattle.asn1_any.proofs.DerLaws.{strict_begins, der_once}
use Rattle.asn1_traits.specs.Reads.{AndAllowed}
use Rattle.asn1_traits.specs.Elements.{ReadsElement}
use Rattle.asn1_traits.specs.Leaves.{IsLeaf, LeafMeans, LeafAllows}
use Rattle.asn1_traits.specs.Writes.{written, primitive, IsLong, IsOneElement}

-- an element that isn't too long to be written is in range
pub short_element : (e : Element) → e.class < 4 → e.tag < 2 ^ 32 → (IsLong (element_octets e) → ⊥) → IsElement e
short_element e class tag short = record { class = class; tag = tag; size = omega (arith, short, length-append (strict_header (head_of_element e)) e.content) }

-- the element that begins strict octets of one is that one
pub same_element : (e f : Element) (rest s : List ℕ) → IsElement e → BeginsWithElement (element_octets e ++ rest) f s → f ≡ e
same_element e f rest s in_range begins = (der_once (element_octets e ++ rest) s rest f e begins (strict_begins e rest in_range)).0

pub leaf_one : (tag : ℕ) (content : List ℕ) → tag < 2 ^ 32 → IsOneElement (Some (primitive tag content))
leaf_one tag content low = (lit< tt, low)

leaf_range : (tag : ℕ) (content : List ℕ) → tag < 2 ^ 32 → (IsLong (element_octets (primitive tag content)) → ⊥) → IsElement (primitive tag content)
leaf_range tag content low short = short_element (primitive tag content) (lit< tt) low short

-- read back before any rest
pub leaf_back : {V : Type 0} (tag : ℕ) (means : List ℕ → V → Type 0) (allowed : List ℕ → Type 0) (content : List ℕ) (v : V) (rest : List ℕ) → tag < 2 ^ 32 →
    (IsLong (written (Some (primitive tag content))) → ⊥) → allowed content × means content v →
    (w : V) × ReadsElement (AndAllowed (LeafMeans tag means) (LeafAllows tag allowed)) (written (Some (primitive tag content)) ++ rest) w rest
leaf_back tag means allowed content v rest low short both =
    let leaf : IsLeaf tag (primitive tag content) = record { tag_is = refl; primitive = refl } in (
      v,
      record {
        element = primitive tag content;
        begins = strict_begins (primitive tag content) rest (leaf_range tag content low short);
        meant = (record { leaf = leaf; meant = both.1 }, record { leaf = leaf; allowed = both.0 });
      },
    )

-- whatever is read back, the content means it
pub leaf_meant : {V : Type 0} (tag : ℕ) (means : List ℕ → V → Type 0) (allowed : List ℕ → Type 0) (content : List ℕ) (w : V) (rest r : List ℕ) → tag < 2 ^ 32 →
    (IsLong (written (Some (primitive tag content))) → ⊥) →
    ReadsElement (AndAllowed (LeafMeans tag means) (LeafAllows tag allowed)) (written (Some (primitive tag content)) ++ rest) w r → means content w
leaf_meant tag means allowed content w rest r low short read =
    let same = same_element (primitive tag content) read.element rest r (leaf_range tag content low short) read.begins in
    subst (λ (e : Element). means e.content w) same read.meant.0.meant
