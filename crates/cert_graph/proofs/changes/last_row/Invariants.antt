use Rattle.std.proofs.Common.{◌≡◌, map, replicate, take}
use Rattle.cert_graph.specs.declared.reach.Reach.TheVariants.{No}
use Rattle.cert_graph.specs.Changes.{last_by}
use Rattle.cert_graph.proofs.changes.last_row.Given as goal

abbrev pub invariant-loop-step : goal.invariant-loop-step
invariant-loop-step l = l.row.items ≡ last_by (replicate l.count No) (map (λ s. s.items) (take l.step-index l.steps))
