use Rattle.std.specs.List.{Contains}
use Rattle.std.proofs.Common.{take}
use Rattle.certpath_why.specs.Found.{AreMarked}
use Rattle.certpath_why.proofs.marks.mark_all.Given as goal

abbrev pub invariant-loop-place : goal.invariant-loop-place
invariant-loop-place l = AreMarked (Contains (take l.place-index l.places)) l.initial.marks.items l.marks.items
