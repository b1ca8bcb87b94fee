-- The text has the lines of the anchors so far.
use Rattle.std.proofs.Common.{string_bytes}
use Rattle.fault_texts.proofs.FaultFacts.{AnchorsSoFar}
use Rattle.fault_texts.proofs.lines.push_anchors.Given as goal

abbrev pub invariant-loop-k : goal.invariant-loop-k
invariant-loop-k l = AnchorsSoFar l.anchors l.k l.left (string_bytes l.initial.text) (string_bytes l.text)
