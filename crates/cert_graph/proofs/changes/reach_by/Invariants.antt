use Rattle.std.proofs.Common.{◌≡◌, replicate, take}
use Rattle.cert_graph.specs.declared.reach.Reach.TheVariants.{No}
use Rattle.cert_graph.specs.Adequate.{at_row, changed}
use Rattle.cert_graph.proofs.changes.reach_by.Given as goal

abbrev pub invariant-loop-change : goal.invariant-loop-change
invariant-loop-change l = l.reach ≡ at_row (changed (replicate l.width No) (take l.change-index l.changes)) l.position
