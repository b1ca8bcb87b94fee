-- Objects in strict octets are read by their tag number.
use Rattle.std.proofs.Common.{◌≡◌, ◌∙◌, sym, ap, subst, refl, ℕ, List, ◌++◌}
use Rattle.asn1_any.specs.DerElements.{SpellsElement}
use Rattle.asn1_any.proofs.DerLaws.{strict_spells}
use Rattle.der_tree.specs.Access.{element_at}
use Rattle.der_tree.specs.Shape.{IsObject, IsContent}
use Rattle.der_tree.specs.Tree.{Tree, node, octets}
use Rattle.der_tree.specs.View.{as_universal}
use Rattle.der_parser.specs.Typed.{ReadsDer}

pub object_is_read : (t : Tree) (rest : List ℕ) → IsObject 50 t → (element_at t).class ≡ 0 → ReadsDer (element_at t).tag (octets t ++ rest) t rest
unfolding IsObject
object_is_read (node h s c) rest p class =
    let e = p.1 in
    let zero_class : e.class ≡ 0 = sym (ap (λ z. z.class) p.2) ∙ class in
    let universal : e ≡ as_universal e = ap (λ n. record { class = n; constructed = e.constructed; tag = e.tag; content = e.content }) zero_class in
    record {
      front = s;
      element = e;
      content = c;
      is = record { spells = subst (λ z. SpellsElement z e) (sym p.3.octets) (strict_spells e p.3.in_range); tag_is = sym (ap (λ z. z.tag) p.2) };
      whole = refl;
      holds = subst (λ z. IsContent 49 z c) universal p.4;
      tree = ap (λ z. node z s c) p.2;
    }
