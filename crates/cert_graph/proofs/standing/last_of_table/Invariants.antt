use Rattle.std.proofs.Common.{◌≡◌, ℕ, ◌+◌, ◌<◌, List, [], get_or, take}
use Rattle.cert_graph.specs.declared.reach.Reach.{Reach}
use Rattle.cert_graph.specs.Adequate.{changed}
use Rattle.cert_graph.specs.Changes.{last_by}
use Rattle.cert_graph.specs.Groups.{HoldsEachLimit, FollowsRow}
use Rattle.cert_graph.specs.Nodes.{graph_of}
use Rattle.cert_graph.specs.Tables.{IsTable}
use Rattle.cert_graph.proofs.Changing.{items_by}
use Rattle.cert_graph.proofs.RowByRow.{row_of_no, rows_in}
use Rattle.cert_graph.proofs.standing.last_of_table.Given as goal

abbrev pub invariant-loop-number : goal.invariant-loop-number
invariant-loop-number l = record {
  before : l.before.items ≡ last_by (row_of_no l.nodes) (items_by (take l.number l.steps));
  row : l.row.items ≡ last_by (row_of_no l.nodes) (items_by (take l.number l.steps));
  table : IsTable (graph_of l.nodes) (rows_in l.nodes (take l.number l.steps));
  limits : 0 < l.number → HoldsEachLimit l.nodes l.before.items;
  follows : (k : ℕ) → k + 1 ≡ l.number → (older : List Reach) × (l.before.items ≡ changed older (get_or (items_by l.steps) k [])) × FollowsRow l.nodes older l.before.items;
}
