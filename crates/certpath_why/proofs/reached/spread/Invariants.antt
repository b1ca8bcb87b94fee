use Rattle.std.proofs.Common.{take}
use Rattle.certpath_why.specs.Found.{Spreads}
use Rattle.certpath_why.proofs.reached.spread.Given as goal

abbrev pub invariant-loop-place : goal.invariant-loop-place
invariant-loop-place l = Spreads (take l.place-index l.places) l.initial.marks.items l.initial.queue.items l.marks.items l.queue.items
