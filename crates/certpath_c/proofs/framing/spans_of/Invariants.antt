use Rattle.certpath_c.proofs.Spans.{Spans}
use Rattle.certpath_c.proofs.framing.spans_of.Given as goal

abbrev pub invariant-loop-k : goal.invariant-loop-k
invariant-loop-k l = Spans l.spans.items l.items.items l.k l.offset
