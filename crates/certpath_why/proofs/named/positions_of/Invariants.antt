use Rattle.std.specs.Prelude.{◌↔◌}
use Rattle.std.specs.List.{Contains}
use Rattle.std.proofs.Common.{ℕ, take}
use Rattle.certpath_why.proofs.Naming.{IsPicked}
use Rattle.certpath_why.proofs.named.positions_of.Given as goal

abbrev pub invariant-loop-number : goal.invariant-loop-number
invariant-loop-number l = (w : ℕ) → Contains l.found.items w ↔ IsPicked l.places (take l.number-index l.numbers) w
