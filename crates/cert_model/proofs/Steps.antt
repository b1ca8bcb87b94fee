-- The steps of reading a tree whose octets are known to be spelled so.
use Rattle.std.proofs.Common.{◌≡◌, ◌∙◌, sym, refl, ℕ, ◌-◌, ◌^◌, ◌<◌, List, [], ◌++◌, true, arith, length-append, Some, lit<}
use Rattle.std.proofs.lemmas.List.{append-nil}
use Rattle.asn1_core.specs.Elements.{Element, IsElement, element_octets}
use Rattle.der_tree.specs.Tree.{Tree, Trees, none, octets, all_octets}
use Rattle.der_tree.specs.Shape.{IsObject, AreObjects}
use Rattle.der_tree.specs.Access.{sequence_at, set_at, first_at, universal}
use Rattle.der_tree.proofs.Shapes.{sequence_only, set_only, first_only, end_only}
use Rattle.cert_model.specs.Octets.{sequence_octets, set_octets}
use Rattle.cert_model.proofs.Bounds.{IsShort, object_short, element_in}

-- the parts of a sequence or a set, whose octets are these
pub record Parts (k : ℕ) (s : List ℕ) (ts : Trees) : Type 0 where
  pub objects : AreObjects k ts
  pub spelled : all_octets ts ≡ s
  pub short : IsShort s

pub in_sequence : (k : ℕ) (t : Tree) (s : List ℕ) → IsObject k t → sequence_octets s ≡ octets t → (ts : Trees) × (sequence_at t ≡ Some ts) × Parts (k - 1) s ts
in_sequence k t s p e =
    let fits = element_in (universal true 16 s) [] [] (octets t) (lit< tt) (lit< tt) (sym e ∙ sym (append-nil (sequence_octets s))) (object_short k t p) in
    let m = sequence_only k t s p fits.0 (sym e) in
    (m.0, m.1, record { objects = m.3; spelled = m.2; short = fits.1 })

pub in_set : (k : ℕ) (t : Tree) (s : List ℕ) → IsObject k t → set_octets s ≡ octets t → (ts : Trees) × (set_at t ≡ Some ts) × Parts (k - 1) s ts
in_set k t s p e =
    let fits = element_in (universal true 17 s) [] [] (octets t) (lit< tt) (lit< tt) (sym e ∙ sym (append-nil (set_octets s))) (object_short k t p) in
    let m = set_only k t s p fits.0 (sym e) in
    (m.0, m.1, record { objects = m.3; spelled = m.2; short = fits.1 })

-- the first part is the object of this element, and the rest are spelled so
pub record First (k : ℕ) (ts : Trees) (e : Element) (r : List ℕ) : Type 0 where
  pub tree : Tree
  pub others : Trees
  pub is_first : first_at ts ≡ Some (tree, others)
  pub object : IsObject k tree
  pub spelled : octets tree ≡ element_octets e
  pub in_range : IsElement e
  pub rest : Parts k r others

pub first_part : (k : ℕ) (ts : Trees) (e : Element) (r : List ℕ) → Parts k (element_octets e ++ r) ts → e.class < 4 → e.tag < 2 ^ 32 → First k ts e r
first_part k ts e r p class tag =
    let fits = element_in e [] r (element_octets e ++ r) class tag refl p.short in
    let m = first_only k ts e r p.objects fits.0 p.spelled in
    record {
      tree = m.0;
      others = m.1;
      is_first = m.2;
      object = m.3;
      spelled = m.4;
      in_range = fits.0;
      rest = record { objects = m.5; spelled = m.6; short = omega (arith, length-append (element_octets e) r, p.short) };
    }

-- what one part is followed by, if all are spelled so
pub no_more : (k : ℕ) (ts : Trees) → Parts k [] ts → ts ≡ none
no_more k ts p = end_only k ts p.objects p.spelled
