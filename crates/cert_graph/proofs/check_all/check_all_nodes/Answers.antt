-- The table once, then each verdict by it.
use Rattle.std.proofs.Common.{◌≡◌, refl, List, length, true, Vec, Global, arith, subst}
use Rattle.std.specs.Prelude.{◌↔◌}
use Rattle.cert_graph.specs.declared.inventory.Verdict.{Verdict}
use Rattle.cert_graph.specs.declared.changes.Change.{Change}
use Rattle.cert_graph.specs.Inventory.{shared_rows, StandsAtLast, OfEach, IsAdequateVerdict}
use Rattle.cert_graph.specs.Lookup.{IsLookup}
use Rattle.cert_graph.specs.Nodes.{graph_of}
use Rattle.cert_graph.specs.Tables.{IsTable}
use Rattle.cert_graph.proofs.Changing.{length-rows}
use Rattle.cert_graph.proofs.RowByRow.{row_of_no, rows_in}
use Rattle.cert_graph.proofs.Sharing.{inventory_true, inventory_iff}
use Rattle.cert_graph.proofs.check_all.check_all_nodes.Goals as goal

pub returns-clause-exact : goal.returns-clause-exact
returns-clause-exact c =
    let nodes = c.args.nodes.now in
    let g = graph_of nodes in
    let inventory = c.args.inventory.now in
    let rows = shared_rows g inventory in
    let standing = subst (λ (xs : List (Vec Change Global)). IsTable g (rows_in nodes xs) × StandsAtLast g (rows_in nodes xs)) c.deref.ensures.value (c.in_ok-is_standing_table.ensures.0 c.if-not-branch.false) in
    let look = subst (λ (xs : List (Vec Change Global)). IsLookup nodes (rows_in nodes xs) c.in_ok-lookup.lookup) c.deref-2.ensures.value c.in_ok-lookup.ensures in
    let count = length-rows (row_of_no nodes) inventory.steps.items in
    let many : length rows ≡ c.len-3.result = omega arith in
    let all : length inventory.verdicts.items ≡ length nodes.items.items = omega arith in
    inventory_iff g inventory rows refl all standing.0 standing.1
    (subst (λ (vs : List Verdict). (c.are_shown.result ≡ true) ↔ OfEach (IsAdequateVerdict g rows) vs) c.deref-3.ensures.value (c.are_shown.ensures rows look standing.0 standing.1 many))

pub returns-clause-holds : goal.returns-clause-holds
returns-clause-holds c = λ t. inventory_true (graph_of c.args.nodes.now) c.args.inventory.now ((returns-clause-exact c).0 t)
