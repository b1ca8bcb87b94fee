use Rattle.std.proofs.Common.{ℕ, ◌↔◌, take}
use Rattle.cert_graph.specs.Reach.{Takes}
use Rattle.cert_graph.specs.Groups.{IsOffered}
use Rattle.cert_graph.proofs.rows.best_of.Given as goal

abbrev pub invariant-loop-position : goal.invariant-loop-position
invariant-loop-position l = (c : ℕ) → Takes l.best c ↔ IsOffered l.nodes l.row (take l.position-index l.positions) c
