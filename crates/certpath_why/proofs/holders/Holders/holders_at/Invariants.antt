use Rattle.std.specs.Prelude.{◌↔◌}
use Rattle.std.specs.List.{Contains}
use Rattle.std.proofs.Common.{ℕ, take}
use Rattle.certpath_why.specs.Holders.{IsInRows}
use Rattle.certpath_why.proofs.holders.Holders.holders_at.Given as goal

abbrev pub invariant-loop-number : goal.invariant-loop-number
invariant-loop-number l = (k : ℕ) → Contains l.found.items k ↔ IsInRows l.self (take l.number-index l.numbers) k
