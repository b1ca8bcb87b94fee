-- Names: what is read of a tree is what its octets spell.
use Rattle.std.proofs.Common.{◌≡◌, ◌∙◌, sym, ap, refl, ℕ, ◌-◌, ◌^◌, ◌<◌, ◌++◌, true, ◌&&◌, length, Some, map, nat_lt, lit<}
use Rattle.std.specs.List.{flat_map}
use Rattle.std.proofs.lemmas.Option.{option_and_then_some}
use Rattle.asn1_core.specs.Elements.{Element, element_octets}
use Rattle.der_tree.specs.Tree.{Tree, Trees, none, more, octets}
use Rattle.der_tree.specs.Shape.{IsObject}
use Rattle.der_tree.specs.Access.{sequence_at, set_at, universal}
use Rattle.der_tree.proofs.Shapes.{sequence_found, set_found}
use Rattle.cert_model.specs.Fields.{Attribute, RelativeName, Name}
use Rattle.cert_model.specs.Octets.{sequence_octets, set_octets, identifier_octets, attribute_octets, relative_name_octets, name_octets}
use Rattle.cert_model.specs.Range.{IsAttribute, is_at_most, are_ascending, IsRelativeName, IsName}
use Rattle.cert_model.specs.Reads.{attribute_at, list_at, ascend, relative_name_at, name_at}
use Rattle.cert_model.proofs.Cases.{chosen, both_true, some_if, if_some}
use Rattle.cert_model.proofs.Steps.{in_sequence, in_set}
use Rattle.cert_model.proofs.Algorithms.{attribute_found, attribute_only}
use Rattle.cert_model.proofs.Lists.{Kind, IsKind, list_found, list_only, list_octets, octets_list}

abbrev attributes : Kind Attribute
attributes = record { bytes = attribute_octets; read = attribute_at }

attribute_element : (a : Attribute) → IsAttribute a → (e : Element) × (e.class < 4) × (e.tag < 2 ^ 32) × (attribute_octets a ≡ element_octets e)
unfolding attribute_octets
attribute_element a p = (universal true 16 (identifier_octets a.identifier ++ element_octets a.value), lit< tt, lit< tt, refl)

attribute_laws : IsKind Attribute attributes IsAttribute
attribute_laws = record { element = attribute_element; found = attribute_found; only = attribute_only }

same_order : (ts : Trees) → ascend ts ≡ are_ascending (octets_list ts)
same_order none = refl
same_order (more t none) = refl
same_order (more t (more u us)) = ap (λ b. is_at_most (octets t) (octets u) && b) (same_order (more u us))

pub relative_name_found : (k : ℕ) (t : Tree) (as' : RelativeName) → IsObject k t → relative_name_at t ≡ Some as' → IsRelativeName as' × (relative_name_octets as' ≡ octets t)
unfolding relative_name_at relative_name_octets
relative_name_found k t as' p e =
    option_and_then_some _ (set_at t) as' e (λ parts e0 r0.
    option_and_then_some _ (list_at attribute_at parts) as' r0 (λ found e1 r1.
    let test = chosen (nat_lt 0 (length found) && ascend parts) found as' r1 in
    let same : found ≡ as' = test.1 in
    let tests = both_true (nat_lt 0 (length found)) (ascend parts) test.0 in
    let m = set_found k t parts p e0 in
    let n = list_found attributes IsAttribute attribute_laws (k - 1) parts found m.1 e1 in
    let o = list_octets attributes IsAttribute attribute_laws (k - 1) parts found m.1 e1 in
    let order : are_ascending (map attribute_octets found) ≡ true = ap are_ascending o ∙ sym (same_order parts) ∙ tests.1 in
    let is : IsRelativeName found = record { some = some_if found tests.0; each = n.0; ordered = order } in
    rw (← same) (is, ap set_octets (sym n.1) ∙ sym m.0.octets)))

pub relative_name_only : (k : ℕ) (t : Tree) (as' : RelativeName) → IsObject k t → IsRelativeName as' → relative_name_octets as' ≡ octets t → relative_name_at t ≡ Some as'
unfolding relative_name_at relative_name_octets
relative_name_only k t as' p q e =
    let m = in_set k t (flat_map attribute_octets as') p e in
    let l : list_at attribute_at m.0 ≡ Some as' = list_only attributes IsAttribute attribute_laws (k - 1) m.0 as' m.2 q.each in
    let o = list_octets attributes IsAttribute attribute_laws (k - 1) m.0 as' m.2.objects l in
    let order : ascend m.0 ≡ true = same_order m.0 ∙ ap are_ascending (sym o) ∙ q.ordered in
    let some : nat_lt 0 (length as') ≡ true = if_some as' q.some in
    rw (m.1, l, some, order) refl

abbrev sets : Kind RelativeName
sets = record { bytes = relative_name_octets; read = relative_name_at }

set_element : (as' : RelativeName) → IsRelativeName as' → (e : Element) × (e.class < 4) × (e.tag < 2 ^ 32) × (relative_name_octets as' ≡ element_octets e)
unfolding relative_name_octets
set_element as' p = (universal true 17 (flat_map attribute_octets as'), lit< tt, lit< tt, refl)

set_laws : IsKind RelativeName sets IsRelativeName
set_laws = record { element = set_element; found = relative_name_found; only = relative_name_only }

pub name_found : (k : ℕ) (t : Tree) (n : Name) → IsObject k t → name_at t ≡ Some n → IsName n × (name_octets n ≡ octets t)
unfolding name_at name_octets
name_found k t n p e =
    option_and_then_some _ (sequence_at t) n e (λ parts e0 r0.
    let m = sequence_found k t parts p e0 in
    let l = list_found sets IsRelativeName set_laws (k - 1) parts n m.1 r0 in
    (l.0, ap sequence_octets (sym l.1) ∙ sym m.0.octets))

pub name_only : (k : ℕ) (t : Tree) (n : Name) → IsObject k t → IsName n → name_octets n ≡ octets t → name_at t ≡ Some n
unfolding name_at name_octets
name_only k t n p q e =
    let m = in_sequence k t (flat_map relative_name_octets n) p e in
    let l : list_at relative_name_at m.0 ≡ Some n = list_only sets IsRelativeName set_laws (k - 1) m.0 n m.2 q in
    rw (m.1, l) refl
