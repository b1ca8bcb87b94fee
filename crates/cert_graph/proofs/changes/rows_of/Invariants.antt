use Rattle.std.proofs.Common.{◌≡◌, map, replicate, take}
use Rattle.cert_graph.specs.declared.reach.Reach.TheVariants.{No}
use Rattle.cert_graph.specs.Adequate.{rows_by}
use Rattle.cert_graph.specs.Changes.{last_by}
use Rattle.cert_graph.proofs.changes.rows_of.Given as goal

abbrev pub invariant-loop-step : goal.invariant-loop-step
invariant-loop-step l = record {
  rows : map (λ r. r.items) l.rows.items ≡ rows_by (replicate l.count No) (map (λ s. s.items) (take l.step-index l.steps));
  last : l.row.items ≡ last_by (replicate l.count No) (map (λ s. s.items) (take l.step-index l.steps));
}
