use Rattle.std.proofs.Common.{◌≡◌, ◌++◌, map, take}
use Rattle.std.specs.List.{AllByRecursion}
use Rattle.certpath_c.specs.Answers.{reach_number, FitsReach}
use Rattle.certpath_c.proofs.answers.push_row.Given as goal

abbrev pub invariant-loop-reach : goal.invariant-loop-reach
invariant-loop-reach l = record { pushed : l.entries.items ≡ l.initial.entries.items ++ map reach_number (take l.reach-index l.row); fit : AllByRecursion FitsReach (take l.reach-index l.row) }
