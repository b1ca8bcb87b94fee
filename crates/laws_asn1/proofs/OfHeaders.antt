-- The worked headers are headers.
use Rattle.std.proofs.Common.{[], ◌∷◌, refl, arith, inl, inr}
use Rattle.asn1_core.specs.Lenient.{SpellsHeader, SpellsBerHeader, IsBerHead}
use Rattle.std.specs.Int.Digits.{AllBelowBase}
use Rattle.asn1_core.specs.Elements.{IsElement}
use Rattle.asn1_core.specs.Strict.{IsHead}
use Rattle.laws_asn1.specs.Worked.{long_octets, indefinite_head, indefinite_octets, null_element, sequence_head}

pub sequence_is_head : IsHead sequence_head
sequence_is_head = record { class = omega arith; tag = omega arith; size = omega arith }

pub indefinite_is_head : IsBerHead indefinite_head
indefinite_is_head = record { class = omega arith; tag = omega arith; size = tt }

pub long_spells : SpellsHeader long_octets sequence_head
long_spells = record {
  identifier = 0x30 ∷ [];
  size = 0x81 ∷ 0x03 ∷ [];
  whole = refl;
  spells_identifier = inl (omega arith, refl);
  spells_length = inr (3 ∷ [], record { some = λ e. cc; below = (omega arith, tt); value = refl }, omega arith, refl);
}

pub indefinite_spells : SpellsBerHeader indefinite_octets indefinite_head
indefinite_spells = record {
  identifier = 0x30 ∷ [];
  size = 0x80 ∷ [];
  whole = refl;
  spells_identifier = inl (omega arith, refl);
  spells_length = (refl, refl);
}

pub null_is_element : IsElement null_element
null_is_element = record { class = omega arith; tag = omega arith; size = omega arith }

pub two_digits : AllBelowBase 256 (1 ∷ 44 ∷ [])
two_digits = (omega arith, (omega arith, tt))
