-- Each part of an adequate path, but for the table.
use Rattle.std.proofs.Common.{◌≡◌, ℕ, ◌-◌, ◌+◌, ◌<◌, length, take, drop, true, arith}
use Rattle.cert_graph.specs.Nodes.{graph_of}
use Rattle.cert_graph.proofs.Checks.{rest_is}
use Rattle.cert_graph.proofs.TableFacts.{refuted, ends_iff, shortest_of, path_iff}
use Rattle.cert_graph.proofs.check_all.is_shown_path.Goals as goal

pub returns-then-not-is_valid_path : goal.returns-then-not-is_valid_path
returns-then-not-is_valid_path c = λ rows look table long. refuted (λ h. let yes : c.is_valid_path.result ≡ true = c.is_valid_path.ensures.1 h.valid in cc)

pub returns-then-has_anchor_below : goal.returns-then-has_anchor_below
returns-then-has_anchor_below c = λ rows look table long.
    let nodes = c.args.nodes.now in
    let ps = c.args.positions.now in
    let n = length ps - 1 in
    let some : 0 < length ps = c.requires.some in
    let last : length ps ≡ n + 1 = omega arith in
    let x = c.has_anchor_below.ensures.0 c.if-has_anchor_below.true in
    refuted (λ h. (ends_iff (λ v. (b : ℕ) → b < c.args.anchor → (graph_of nodes).AnchorEdge v b → ⊥) ps n last).1 h.least_anchor x.0 x.1 x.2)

pub returns-then-not-is_shortest : goal.returns-then-not-is_shortest
returns-then-not-is_shortest c = λ rows look table long.
    let some : 0 < length c.args.positions.now = c.requires.some in
    let many : length rows ≡ length c.args.positions.now - 1 = omega arith in
    refuted (λ h. let yes : c.is_shortest.result ≡ true =
    (c.is_shortest.ensures rows look many).1 (shortest_of (graph_of c.args.nodes.now) c.args.target c.args.positions.now c.args.anchor rows h) in cc)

pub returns : goal.returns
returns c = λ rows look table long.
    let nodes = c.args.nodes.now in
    let ps = c.args.positions.now in
    let n = length ps - 1 in
    let some : 0 < length ps = c.requires.some in
    let last : length ps ≡ n + 1 = omega arith in
    let many : length rows ≡ n = omega arith in
    path_iff (graph_of nodes) c.args.target ps (take (length ps - 1) (drop 1 ps)) c.args.anchor rows long (rest_is ps)
    (c.is_valid_path.ensures.0 c.if-not-is_valid_path.false) table
    ((ends_iff (λ v. (b : ℕ) → b < c.args.anchor → (graph_of nodes).AnchorEdge v b → ⊥) ps n last).0
    (λ b lt edge. let yes : c.has_anchor_below.result ≡ true = c.has_anchor_below.ensures.1 (b, lt, edge) in cc))
    ((c.is_shortest.ensures rows look many).0 c.if-not-is_shortest.false) (c.is_lowest.ensures rows look (omega arith))
