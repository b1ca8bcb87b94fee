use Rattle.std.proofs.Common.{take}
use Rattle.std.specs.List.{Contains}
use Rattle.certpath_why.specs.Ranges.{AreRanges}
use Rattle.certpath_why.proofs.ranges.ranges_of.Given as goal

abbrev pub invariant-loop-place : goal.invariant-loop-place
invariant-loop-place l = AreRanges (Contains (take l.place-index l.places)) l.ranges.items
