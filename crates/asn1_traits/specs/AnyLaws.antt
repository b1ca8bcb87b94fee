-- An element of any type is lawful.
use Rattle.std.proofs.Common.{◌≡◌, ◌∙◌, refl, ap, ℕ, ◌^◌, ◌<◌, List, ◌++◌, length, Option, Some, lit<}
use Rattle.asn1_core.specs.Elements.{Element, IsElement, element_octets}
use Rattle.asn1_core.specs.Views.{class_number}
use Rattle.asn1_core.specs.declared.class.Class.{Class}
use Rattle.asn1_core.specs.declared.class.Class.TheVariants.{Universal, Application, ContextSpecific, Private}
use Rattle.asn1_core.specs.declared.length.Length.TheVariants.{Definite}
use Rattle.asn1_any.specs.BerElements.{BerElement, definite_element, element_of_ber}
use Rattle.asn1_any.specs.Views.{any_of, ber_any_of}
use Rattle.asn1_any.specs.declared.any.Any.{Any}
use Rattle.asn1_any.proofs.DerLaws.{strict_begins}
use Rattle.asn1_traits.specs.Reads.{AndAllowed}
use Rattle.asn1_traits.specs.Elements.{ReadsElement}
use Rattle.asn1_traits.specs.Writes.{written, IsLong, IsOneElement}
use Rattle.asn1_traits.specs.LeafLaws.{short_element, same_element}

class_small : (c : Class) → class_number c < 4
class_small Universal = lit< tt
class_small Application = lit< tt
class_small ContextSpecific = lit< tt
class_small Private = lit< tt

any_range : (v : Any) → v.header.tag.0 < 2 ^ 32 → (IsLong (written (Some (any_of v))) → ⊥) → IsElement (any_of v)
any_range v form short = short_element (any_of v) (class_small v.header.class) form short

pub any_one : (v : Any) → v.header.tag.0 < 2 ^ 32 → IsOneElement (Some (any_of v))
any_one v form = (class_small v.header.class, form)

-- the element with the length that its content has
counted : Any → Any
counted v = record { header = record { class = v.header.class; constructed = v.header.constructed; tag = v.header.tag; length = Definite (length v.content.now) }; content = v.content }

pub any_back : (v : Any) (rest : List ℕ) → v.header.tag.0 < 2 ^ 32 → (IsLong (written (Some (any_of v))) → ⊥) →
    (w : Any) × ReadsElement (AndAllowed (λ e x. ber_any_of x ≡ e) (λ _. Unit {0})) (written (Some (any_of v)) ++ rest) w rest
unfolding counted
any_back v rest form short = (counted v, record { element = any_of v; begins = strict_begins (any_of v) rest (any_range v form short); meant = (refl, tt) })

pub any_same : (v w : Any) (rest r : List ℕ) → v.header.tag.0 < 2 ^ 32 → (IsLong (written (Some (any_of v))) → ⊥) →
    ReadsElement (AndAllowed (λ e x. ber_any_of x ≡ e) (λ _. Unit {0})) (written (Some (any_of v)) ++ rest) w r → Some (any_of w) ≡ Some (any_of v)
any_same v w rest r form short read =
    let same : read.element ≡ any_of v = same_element (any_of v) read.element rest r (any_range v form short) read.begins in
    ap (λ (e : BerElement). Some (element_of_ber e)) (read.meant.0 ∙ ap definite_element same)
