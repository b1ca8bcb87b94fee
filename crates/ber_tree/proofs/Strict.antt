-- What is a DER object is a BER object, with one tree.
use Rattle.std.proofs.Common.{◌∙◌, refl, inl, ℕ, ◌-◌, List}
use Rattle.asn1_core.specs.Elements.{Element}
use Rattle.asn1_any.specs.BerElements.{definite_element}
use Rattle.asn1_any.proofs.DerLaws.{strict_spells}
use Rattle.der_tree.specs.Object.{IsCut}
use Rattle.der_tree.specs.Tree.{Tree, node, Content, leaf, sequence, set, Trees, none, more}
use Rattle.der_tree.specs.Shape.{IsObject, IsContent, AreObjects}
use Rattle.ber_tree.specs.Object.{IsBerCut, IsEnded, IsBerObject, IsBerContent, AreBerObjects}

strict_cut : (s : List ℕ) (e : Element) → IsCut s e → IsBerCut s (definite_element e)
strict_cut s e p =
    let m = strict_spells e p.in_range in
    record {
      header = m.header;
      body = e.content;
      in_range = record { class = p.in_range.class; tag = p.in_range.tag; size = p.in_range.size };
      small = p.size;
      spells = record { identifier = m.spells.identifier; size = m.spells.size; whole = m.spells.whole; spells_identifier = m.spells.spells_identifier; spells_length = m.spells.spells_length };
      ends = (refl, refl);
      octets = p.octets ∙ m.whole;
    }

strict_ended : (k : ℕ) (e : Element) (c : Content) → IsEnded k (definite_element e) c
strict_ended k e (leaf v) = tt
strict_ended k e (sequence ts) = tt
strict_ended k e (set ts) = tt

mutual
  unfolding IsObject IsContent AreObjects IsBerObject IsBerContent AreBerObjects

  pub strict_object : (t : Tree) (k : ℕ) → IsObject k t → IsBerObject k t
  strict_object (node h s c) k p = (p.0, definite_element p.1, p.2, strict_cut s p.1 p.3, strict_ended (k - 1) p.1 c, strict_content c (k - 1) p.1 p.4)

  strict_content : (c : Content) (k : ℕ) (e : Element) → IsContent k e c → IsBerContent k e c
  strict_content (leaf v) k e p = inl p
  strict_content (sequence ts) k e p = (p.0, p.1, strict_all ts k p.2)
  strict_content (set ts) k e p = (p.0, p.1, strict_all ts k p.2)

  strict_all : (ts : Trees) (k : ℕ) → AreObjects k ts → AreBerObjects k ts
  strict_all none k p = tt
  strict_all (more t ts) k p = (strict_object t k p.0, strict_all ts k p.1)
