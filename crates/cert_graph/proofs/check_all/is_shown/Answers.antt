-- A path by the first rows.
use Rattle.std.proofs.Common.{rules, ◌≡◌, ℕ, ◌+◌, ◌-◌, ◌<◌, ◌≤◌, List, length, take, true, arith, sym, subst}
use Rattle.std.specs.Prelude.{◌↔◌}
use Rattle.std.proofs.lemmas.List.{length-take-le}
use Rattle.cert_graph.specs.declared.inventory.Verdict.{Verdict}
use Rattle.cert_graph.specs.Adequate.{IsAdequatePath}
use Rattle.cert_graph.specs.Inventory.{IsAdequateVerdict}
use Rattle.cert_graph.specs.Nodes.{graph_of}
use Rattle.cert_graph.proofs.Looking.{lookup_take}
use Rattle.cert_graph.proofs.Sharing.{table_take}
use Rattle.cert_graph.proofs.check_all.is_shown.Goals as goal

pub returns-else-len-count : goal.returns-else-len-count
returns-else-len-count c = λ rows look table stands many.
    let nodes = c.args.nodes.now in
    let g = graph_of nodes in
    let ps = c.in-FirstPath.positions.items in
    let n = length ps - 1 in
    let some : 0 < length ps = search rules in
    let short : n ≤ length rows = omega arith in
    let size = length-take-le n rows short in
    let same = c.deref.ensures.value in
    let long : length (take n rows) + 1 ≡ length c.deref.result.now = subst (λ (qs : List ℕ). length (take n rows) + 1 ≡ length qs) (sym same) (omega arith) in
    subst (λ (v : Verdict). (c.is_shown_path.result ≡ true) ↔ IsAdequateVerdict g rows c.args.target v) (sym c.in-FirstPath.is)
    (subst (λ (qs : List ℕ). (c.is_shown_path.result ≡ true) ↔ IsAdequatePath g c.args.target qs c.in-FirstPath.anchor (take n rows)) same
    (c.is_shown_path.ensures (take n rows) (lookup_take nodes rows n c.args.lookup.now look) (table_take g rows n table) long))
