use Rattle.std.proofs.Common.{◌≡◌, ◌++◌, map, drop}
use Rattle.certpath_c.specs.Shaping.{shape_number}
use Rattle.certpath_c.proofs.shaping.numbers_of.Given as goal

abbrev pub invariant-loop-k : goal.invariant-loop-k
invariant-loop-k l = l.numbers.items ++ map shape_number (drop l.k l.items.items) ≡ map shape_number l.items.items
