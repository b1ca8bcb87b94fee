-- The worked elements are elements, and one octet is none.
use Rattle.std.proofs.Common.{[], ◌∷◌, ◌++◌, refl, arith, inl, inr}
use Rattle.std.specs.Int.Digits.{AllBelowBase}
use Rattle.asn1_core.specs.Elements.{head_of_element}
use Rattle.asn1_core.specs.Lenient.{SpellsHeader, SpellsBerHeader}
use Rattle.asn1_core.specs.Reading.{header_at, identity_at, length_at}
use Rattle.asn1_any.specs.BerElements.{SpellsBer, IsWithin, definite_element, BeginsWithBerElement}
use Rattle.asn1_any.specs.Cutting.{IsCutting, IsPiece}
use Rattle.asn1_any.specs.DerElements.{BeginsWithElement, HasElement}
use Rattle.asn1_any.specs.Reading.{der_element_at}
use Rattle.asn1_any.proofs.Cuts.{none_begins}
use Rattle.laws_asn1.specs.Worked.{after, indefinite_element, indefinite_whole, long_null, long_piece, null_element}
use Rattle.laws_asn1.proofs.OfHeaders.{null_is_element, indefinite_is_head, indefinite_spells}

long_null_header : SpellsHeader long_null (head_of_element null_element)
long_null_header = record {
  identifier = 0x05 ∷ [];
  size = 0x81 ∷ 0x00 ∷ [];
  whole = refl;
  spells_identifier = inl (omega arith, refl);
  spells_length = inr (0 ∷ [], record { some = λ e. cc; below = (omega arith, tt); value = refl }, omega arith, refl);
}

pub long_is_piece : IsPiece long_piece
long_is_piece = record { header = long_null; in_range = null_is_element; spells = long_null_header; whole = refl }

pub begins : BeginsWithElement (long_null ++ after) null_element after
begins = record { front = long_null; spells = long_is_piece; whole = refl }

-- the NULL within the indefinite content: 05 00
null_header : SpellsBerHeader (0x05 ∷ 0x00 ∷ []) (definite_element null_element).head
null_header = record {
  identifier = 0x05 ∷ [];
  size = 0x00 ∷ [];
  whole = refl;
  spells_identifier = inl (omega arith, refl);
  spells_length = inl (omega arith, refl);
}

null_spells : SpellsBer (IsWithin 0) (0x05 ∷ 0x00 ∷ []) (definite_element null_element)
null_spells = record {
  header = 0x05 ∷ 0x00 ∷ [];
  body = [];
  in_range = record { class = omega arith; tag = omega arith; size = omega arith };
  spells = null_header;
  closes = (refl, refl);
  whole = refl;
}

null_within : IsWithin 1 (0x05 ∷ 0x00 ∷ [])
unfolding IsWithin
null_within = (λ e. cc, (definite_element null_element, null_spells))

indefinite_spelled : SpellsBer (IsWithin 1) indefinite_whole indefinite_element
indefinite_spelled = record {
  header = 0x30 ∷ 0x80 ∷ [];
  body = 0x05 ∷ 0x00 ∷ 0x00 ∷ 0x00 ∷ [];
  in_range = indefinite_is_head;
  spells = indefinite_spells;
  closes = (record { pieces = (0x05 ∷ 0x00 ∷ []) ∷ []; each = (null_within, tt); whole = refl }, refl);
  whole = refl;
}

pub begins_ber : BeginsWithBerElement 1 (indefinite_whole ++ after) indefinite_element after
begins_ber = record { front = indefinite_whole; spells = indefinite_spelled; whole = refl }

none : ¬ HasElement (0x05 ∷ [])
unfolding der_element_at header_at identity_at length_at
none = none_begins (0x05 ∷ []) _ refl

pub one_cut : IsCutting (long_null ++ (0x05 ∷ [])) (long_piece ∷ []) (0x05 ∷ [])
one_cut = record { whole = refl; each = (long_is_piece, tt); last = none }

pub none_cut : IsCutting (0x05 ∷ []) [] (0x05 ∷ [])
none_cut = record { whole = refl; each = tt; last = none }

pub octet : AllBelowBase 256 (0x05 ∷ [])
octet = (omega arith, tt)
