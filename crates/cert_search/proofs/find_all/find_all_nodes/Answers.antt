-- One verdict more, and all of them.
use Rattle.std.proofs.Common.{◌≡◌, ℕ, ◌+◌, ◌∙◌, List, length, replicate, Vec, Global, arith, ap, sym, subst}
use Rattle.std.proofs.lemmas.List.{length_push}
use Rattle.cert_graph.specs.declared.reach.Reach.TheVariants.{No}
use Rattle.cert_graph.specs.declared.changes.Change.{Change}
use Rattle.cert_graph.specs.Adequate.{rows_by}
use Rattle.cert_graph.specs.Inventory.{IsAdequateVerdict}
use Rattle.cert_graph.specs.Lookup.{IsLookup}
use Rattle.cert_graph.specs.Nodes.{graph_of}
use Rattle.cert_graph.proofs.Changing.{items_by, length-rows}
use Rattle.cert_graph.proofs.Sharing.{inventory_true}
use Rattle.cert_search.specs.Inventory.{AreAllRows}
use Rattle.cert_search.proofs.AllRows.{all_table, all_stands, all_exact, all_short, each_push}
use Rattle.cert_search.proofs.find_all.find_all_nodes.Goals as goal

pub verdict_of-requires-clause-lookup : goal.verdict_of-requires-clause-lookup
verdict_of-requires-clause-lookup c =
    let nodes = c.args.nodes.now in
    let none = replicate (length nodes.items.items) No in
    subst (λ (xs : List (Vec Change Global)). IsLookup nodes (rows_by none (items_by xs)) c.in_ok-lookup.lookup) (c.deref.ensures.value ∙ sym c.deref-in-loop-target.ensures.value) c.in_ok-lookup.ensures

pub verdict_of-requires-clause-rows : goal.verdict_of-requires-clause-rows
verdict_of-requires-clause-rows c =
    let nodes = c.args.nodes.now in
    let none = replicate (length nodes.items.items) No in
    subst (λ (xs : List (Vec Change Global)). AreAllRows (graph_of nodes) (rows_by none (items_by xs))) (sym c.deref-in-loop-target.ensures.value) c.in_ok-steps.ensures

pub loop-target-preserved : goal.loop-target-preserved
loop-target-preserved c =
    let nodes = c.args.nodes.now in
    let g = graph_of nodes in
    let none = replicate (length nodes.items.items) No in
    let rows = rows_by none (items_by c.in_ok-steps.steps.items) in
    let count : length c.loop-target.verdicts.items ≡ c.loop-target.target = c.loop-target.invariant.count in
    let shown : IsAdequateVerdict g rows c.loop-target.target c.in_ok-verdict_of.field-0 =
    subst (λ (xs : List (Vec Change Global)). IsAdequateVerdict g (rows_by none (items_by xs)) c.loop-target.target c.in_ok-verdict_of.field-0) c.deref-in-loop-target.ensures.value c.in_ok-verdict_of.ensures in record {
      count = ap length c.in_ok-push.ensures.items ∙ length_push c.loop-target.verdicts.items c.in_ok-verdict_of.field-0 ∙ ap (λ (n : ℕ). n + 1) count;
      each = each_push (IsAdequateVerdict g rows) c.loop-target.verdicts.items c.push.new.self.items c.in_ok-verdict_of.field-0 c.in_ok-push.ensures.items
          (subst (λ (n : ℕ). IsAdequateVerdict g rows n c.in_ok-verdict_of.field-0) (sym count) shown) c.loop-target.invariant.each;
    }

pub returns-clause-adequate : goal.returns-clause-adequate
returns-clause-adequate c =
    let nodes = c.args.nodes.now in
    let rows = rows_by (replicate (length nodes.items.items) No) (items_by c.in_ok-steps.steps.items) in record {
      table = all_table (graph_of nodes) rows c.in_ok-steps.ensures;
      stands = all_stands (graph_of nodes) rows c.in_ok-steps.ensures;
      count = omega arith;
      each = c.loop-target.invariant.each;
    }

pub returns-clause-holds : goal.returns-clause-holds
returns-clause-holds c = inventory_true (graph_of c.args.nodes.now) _ (returns-clause-adequate c)

pub returns-clause-exact : goal.returns-clause-exact
returns-clause-exact c = all_exact (graph_of c.args.nodes.now) _ c.in_ok-steps.ensures

pub returns-clause-short : goal.returns-clause-short
returns-clause-short c =
    let nodes = c.args.nodes.now in
    all_short nodes (rows_by (replicate (length nodes.items.items) No) (items_by c.in_ok-steps.steps.items)) c.loop-target.verdicts.items c.loop-target.invariant.each

pub returns-clause-bounded : goal.returns-clause-bounded
returns-clause-bounded c =
    let all = c.in_ok-steps.ensures in
    let ends = all.ends in
    let few = all.bounded in
    let size = length-rows (replicate (length c.args.nodes.now.items.items) No) c.in_ok-steps.steps.items in
    (omega arith, omega arith)
