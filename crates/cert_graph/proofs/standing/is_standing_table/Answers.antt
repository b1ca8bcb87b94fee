-- The last row of a table, against itself.
use Rattle.std.proofs.Common.{◌≡◌, Option, Vec, Global, List, true, subst}
use Rattle.std.specs.Prelude.{◌↔◌, IfSome}
use Rattle.cert_graph.specs.declared.reach.Reach.{Reach}
use Rattle.cert_graph.specs.Changes.{last_by}
use Rattle.cert_graph.specs.Groups.{FollowsRow}
use Rattle.cert_graph.specs.Nodes.{graph_of}
use Rattle.cert_graph.specs.Tables.{IsTable}
use Rattle.cert_graph.proofs.Changing.{items_by}
use Rattle.cert_graph.proofs.RowByRow.{row_of_no, rows_in, standing_iff}
use Rattle.cert_graph.proofs.standing.is_standing_table.Goals as goal

pub returns-in-Some : goal.returns-in-Some
returns-in-Some c =
    let nodes = c.args.nodes.now in
    let steps = c.args.steps.now in
    let row = c.in-Some.row.items in
    let last : row ≡ last_by (row_of_no nodes) (items_by steps) =
    subst (λ (o : Option (Vec Reach Global)). IfSome o (λ r. r.items ≡ last_by (row_of_no nodes) (items_by steps))) c.in-Some.is c.in_ok-row.ensures.last in
    let table : IsTable (graph_of nodes) (rows_in nodes steps) =
    subst (λ (o : Option (Vec Reach Global)). IfSome o (λ r. IsTable (graph_of nodes) (rows_in nodes steps))) c.in-Some.is c.in_ok-row.ensures.table in
    let test : (c.follows_row.result ≡ true) ↔ FollowsRow nodes row row =
    subst (λ (r : List Reach). (c.follows_row.result ≡ true) ↔ FollowsRow nodes r row) c.deref.ensures.value
    (subst (λ (s : List Reach). (c.follows_row.result ≡ true) ↔ FollowsRow nodes c.deref.result.now s) c.deref-in-Some.ensures.value c.follows_row.ensures) in
    standing_iff nodes steps row last table test
