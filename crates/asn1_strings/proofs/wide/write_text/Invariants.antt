use Rattle.std.specs.Str.{IsUtf8}
use Rattle.std.specs.Str.Iter.{chars_rest}
use Rattle.asn1_strings.specs.Wide.{wide_octets}
use Rattle.asn1_strings.proofs.Writing.{Sent}
use Rattle.asn1_strings.proofs.wide.write_text.Given as goal

abbrev pub invariant-loop-character : goal.invariant-loop-character
invariant-loop-character g l =
    IsUtf8 (chars_rest l.rest) ×
    Sent (wide_octets g.F.WideForm.char_octets l.text) (wide_octets g.F.WideForm.char_octets (chars_rest l.rest)) (g.S.Sink.contents l.fn.writer) (g.S.Sink.contents l.writer) (g.S.Sink.failures l.fn.writer) (g.S.Sink.failures l.writer) l.total ×
    (goal.iterator-loop-character g).can_next l.rest × (goal.iterator-loop-character g).is_finite l.rest
