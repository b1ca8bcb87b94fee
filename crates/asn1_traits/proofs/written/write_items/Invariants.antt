use Rattle.std.proofs.Common.{length}
use Rattle.asn1_traits.proofs.Sequences.{Sent}
use Rattle.asn1_traits.proofs.written.write_items.Given as goal

abbrev pub invariant-loop-item : goal.invariant-loop-item
invariant-loop-item g l = Sent g.T.ToDer.element g.T.ToDer.is_der g.T.ToDer.grows l.items l.rest (g.S.Sink.contents l.fn.writer) (g.S.Sink.contents l.writer) (g.S.Sink.failures l.fn.writer) (g.S.Sink.failures l.writer) l.total

abbrev pub decreases-loop-item : goal.decreases-loop-item
decreases-loop-item g l = length l.rest
