use Rattle.std.proofs.Common.{◌≡◌, ◌+◌, length}
use Rattle.std.specs.Str.{IsUtf8}
use Rattle.std.specs.Str.Iter.{chars_rest}
use Rattle.asn1_strings.specs.Wide.{wide_octets}
use Rattle.asn1_strings.proofs.wide.text_len.Given as goal

abbrev pub invariant-loop-character : goal.invariant-loop-character
invariant-loop-character g l =
    IsUtf8 (chars_rest l.rest) ×
    (l.total + length (wide_octets g.F.WideForm.char_octets (chars_rest l.rest)) ≡ length (wide_octets g.F.WideForm.char_octets l.text)) ×
    (goal.iterator-loop-character g).can_next l.rest × (goal.iterator-loop-character g).is_finite l.rest
