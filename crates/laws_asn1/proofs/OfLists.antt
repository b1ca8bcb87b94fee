-- The worked booleans are read, one after the other.
use Rattle.std.proofs.Common.{◌≡◌, ℕ, Bool, true, false, List, [], ◌∷◌, refl, arith, inl, inr}
use Rattle.std.specs.Prelude.{◌==◌, not}
use Rattle.std.specs.List.Sorted.{IsPermutation}
use Rattle.asn1_core.specs.Elements.{Element, IsElement, head_of_element}
use Rattle.asn1_core.specs.Lenient.{SpellsHeader, SpellsBerHeader}
use Rattle.asn1_any.specs.BerElements.{BeginsWithBerElement, IsWithin, SpellsBer, definite_element}
use Rattle.asn1_any.specs.DerElements.{BeginsWithElement}
use Rattle.asn1_lists.specs.Ordered.{Ascending}
use Rattle.asn1_traits.specs.Booleans.{BooleanMeans, IsStrictBoolean}
use Rattle.asn1_traits.specs.Elements.{ReadsElement, ReadsBerElement}
use Rattle.asn1_traits.specs.Leaves.{LeafMeans, LeafAllows}
use Rattle.asn1_traits.specs.Reads.{AndAllowed}
use Rattle.laws_asn1.specs.Lists.{two_encodings}

abbrev boolean : ℕ → Element
boolean octet = record { class = 0; constructed = false; tag = 1; content = octet ∷ [] }

in_range : (octet : ℕ) → IsElement (boolean octet)
in_range octet = record { class = omega arith; tag = omega arith; size = omega arith }

header : (octet : ℕ) → SpellsHeader (0x01 ∷ 0x01 ∷ []) (head_of_element (boolean octet))
header octet = record {
  identifier = 0x01 ∷ [];
  size = 0x01 ∷ [];
  whole = refl;
  spells_identifier = inl (omega arith, refl);
  spells_length = inl (omega arith, refl);
}

ber_header : (octet : ℕ) → SpellsBerHeader (0x01 ∷ 0x01 ∷ []) (definite_element (boolean octet)).head
ber_header octet = record {
  identifier = 0x01 ∷ [];
  size = 0x01 ∷ [];
  whole = refl;
  spells_identifier = inl (omega arith, refl);
  spells_length = inl (omega arith, refl);
}

begins : (octet : ℕ) (rest : List ℕ) → BeginsWithElement (0x01 ∷ 0x01 ∷ octet ∷ rest) (boolean octet) rest
begins octet rest = record {
  front = 0x01 ∷ 0x01 ∷ octet ∷ [];
  spells = record { header = 0x01 ∷ 0x01 ∷ []; in_range = in_range octet; spells = header octet; whole = refl };
  whole = refl;
}

ber_spells : (k octet : ℕ) → SpellsBer (IsWithin k) (0x01 ∷ 0x01 ∷ octet ∷ []) (definite_element (boolean octet))
ber_spells k octet = record {
  header = 0x01 ∷ 0x01 ∷ [];
  body = octet ∷ [];
  in_range = record { class = omega arith; tag = omega arith; size = omega arith };
  spells = ber_header octet;
  closes = (refl, refl);
  whole = refl;
}

ber_begins : (k octet : ℕ) (rest : List ℕ) → BeginsWithBerElement k (0x01 ∷ 0x01 ∷ octet ∷ rest) (definite_element (boolean octet)) rest
ber_begins k octet rest = record { front = 0x01 ∷ 0x01 ∷ octet ∷ []; spells = ber_spells k octet; whole = refl }

means : (octet : ℕ) (v : Bool) → v ≡ not (octet == 0) → LeafMeans 1 BooleanMeans (definite_element (boolean octet)) v
means octet v is = record { leaf = record { tag_is = refl; primitive = refl }; meant = record { octet = octet; whole = refl; value = is } }

abbrev DerReads : List ℕ → Bool → List ℕ → Type 0
DerReads = ReadsElement (AndAllowed (LeafMeans 1 BooleanMeans) (LeafAllows 1 IsStrictBoolean))

pub false_read : (rest : List ℕ) → DerReads (0x01 ∷ 0x01 ∷ 0x00 ∷ rest) false rest
false_read rest = record {
  element = boolean 0;
  begins = begins 0 rest;
  meant = (means 0 false refl, record { leaf = record { tag_is = refl; primitive = refl }; allowed = inl refl });
}

pub true_read : (rest : List ℕ) → DerReads (0x01 ∷ 0x01 ∷ 0xff ∷ rest) true rest
true_read rest = record {
  element = boolean 255;
  begins = begins 255 rest;
  meant = (means 255 true refl, record { leaf = record { tag_is = refl; primitive = refl }; allowed = inr refl });
}

pub false_read_by_ber : (rest : List ℕ) → ReadsBerElement (LeafMeans 1 BooleanMeans) (0x01 ∷ 0x01 ∷ 0x00 ∷ rest) false rest
false_read_by_ber rest = record { element = definite_element (boolean 0); begins = ber_begins _ 0 rest; meant = means 0 false refl }

pub true_read_by_ber : (rest : List ℕ) → ReadsBerElement (LeafMeans 1 BooleanMeans) (0x01 ∷ 0x01 ∷ 0xff ∷ rest) true rest
true_read_by_ber rest = record { element = definite_element (boolean 255); begins = ber_begins _ 255 rest; meant = means 255 true refl }

pub ascending : Ascending two_encodings
ascending = ((refl, tt), (tt, tt))

pub permuted : IsPermutation two_encodings two_encodings
permuted = record { moves = []; below = tt; is = refl }
