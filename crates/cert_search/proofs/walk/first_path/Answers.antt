-- The walk's path, with the rows that it went down.
use Rattle.std.proofs.Common.{◌≡◌, ℕ, ◌+◌, ◌<◌, List, length, replicate, Vec, Global, subst, sym, arith}
use Rattle.cert_graph.specs.declared.reach.Reach.TheVariants.{No}
use Rattle.cert_graph.specs.declared.changes.Change.{Change}
use Rattle.cert_graph.specs.Adequate.{row_of, IsAdequatePath, rows_by}
use Rattle.cert_graph.specs.Nodes.{graph_of}
use Rattle.cert_graph.proofs.Changing.{items_by}
use Rattle.cert_search.specs.Exact.{HoldsExactly, HoldsNoElsewhere}
use Rattle.cert_search.specs.Inventory.{IsPathBy}
use Rattle.cert_search.proofs.Exactness.{exact_no_elsewhere}
use Rattle.cert_search.proofs.walk.first_path.Goals as goal

pub returns-clause-adequate : goal.returns-clause-adequate
returns-clause-adequate c =
    let nodes = c.args.nodes.now in
    let g = graph_of nodes in
    let none = replicate (length nodes.items.items) No in
    let wide : c.len.result ≡ length nodes.items.items = omega arith in
    let found : IsAdequatePath g c.args.target c.in-FirstPath.positions.items c.in-FirstPath.anchor (rows_by none (items_by c.deref-2.result.now)) =
    subst (IsPathBy g (rows_by none (items_by c.deref-2.result.now)) c.args.target) c.in-FirstPath.is c.in_ok-positions.ensures in
    subst (λ (n : ℕ). IsAdequatePath g c.args.target c.in-FirstPath.positions.items c.in-FirstPath.anchor (rows_by (replicate n No) (items_by c.args.steps.items))) (sym wide)
    (subst (λ (xs : List (Vec Change Global)). IsAdequatePath g c.args.target c.in-FirstPath.positions.items c.in-FirstPath.anchor (rows_by none (items_by xs))) c.deref-2.ensures.value found)

pub returns-clause-exact : goal.returns-clause-exact
returns-clause-exact c =
    let nodes = c.args.nodes.now in
    let g = graph_of nodes in
    let none = replicate (length nodes.items.items) No in
    let steps = items_by c.args.steps.items in
    let wide : c.len.result ≡ length nodes.items.items = omega arith in
    subst (λ (n : ℕ). (k : ℕ) → k < length (rows_by (replicate n No) steps) → HoldsExactly g (k + 1) (row_of (rows_by (replicate n No) steps) k) × HoldsNoElsewhere g (row_of (rows_by (replicate n No) steps) k)) (sym wide)
    (λ k lt. (c.requires.run.exact k lt, exact_no_elsewhere g (k + 1) (row_of (rows_by none steps) k) (c.requires.run.exact k lt)))
