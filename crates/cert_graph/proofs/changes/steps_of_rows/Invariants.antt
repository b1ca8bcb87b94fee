use Rattle.std.proofs.Common.{◌≡◌, map, replicate, take}
use Rattle.cert_graph.specs.declared.reach.Reach.TheVariants.{No}
use Rattle.cert_graph.specs.Adequate.{rows_by}
use Rattle.cert_graph.specs.Changes.{last_by}
use Rattle.cert_graph.proofs.changes.steps_of_rows.Given as goal

abbrev pub invariant-loop-row : goal.invariant-loop-row
invariant-loop-row l = record {
  rows : rows_by (replicate l.width No) (map (λ s. s.items) l.steps.items) ≡ map (λ r. r.items) (take l.row-index l.rows);
  last : l.before.items ≡ last_by (replicate l.width No) (map (λ s. s.items) l.steps.items);
}
