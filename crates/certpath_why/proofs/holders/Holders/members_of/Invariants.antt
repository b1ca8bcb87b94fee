use Rattle.std.specs.Prelude.{◌↔◌}
use Rattle.std.specs.List.{Contains}
use Rattle.std.proofs.Common.{ℕ, take}
use Rattle.certpath_why.proofs.Holding.{IsOfFirst}
use Rattle.certpath_why.proofs.holders.Holders.members_of.Given as goal

abbrev pub invariant-loop-holder : goal.invariant-loop-holder
invariant-loop-holder l = (w : ℕ) → Contains l.found.items w ↔ IsOfFirst l.self (take l.holder-index l.row) l.name w
