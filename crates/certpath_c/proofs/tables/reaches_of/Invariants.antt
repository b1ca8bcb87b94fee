use Rattle.std.proofs.Common.{◌≡◌, map, take}
use Rattle.std.specs.List.{AllByRecursion}
use Rattle.certpath_c.specs.Answers.{reach_number, FitsReach}
use Rattle.certpath_c.proofs.tables.reaches_of.Given as goal

abbrev pub invariant-loop-entry : goal.invariant-loop-entry
invariant-loop-entry l = record { read : map reach_number l.row.items ≡ take l.entry-index l.entries; fit : AllByRecursion FitsReach l.row.items }
