-- No row, one row, or more.
use Rattle.std.proofs.Common.{◌≡◌, ◌-◌, ◌+◌, ◌<◌, ◌≤◌, length, arith, refl}
use Rattle.cert_graph.specs.Adequate.{row_of}
use Rattle.cert_graph.specs.Nodes.{graph_of}
use Rattle.cert_graph.proofs.TableFacts.{refuted, granted, no_anchor, some_anchor, shortest_iff}
use Rattle.cert_graph.proofs.shown.is_shortest.Goals as goal

pub returns-then-count-eq0 : goal.returns-then-count-eq0
returns-then-count-eq0 c = λ rows look many.
    let none : c.args.count ≡ 0 = c.if-count-eq0.true in
    granted (record {
      not_alone = λ some. absurd (omega arith);
      not_shorter = λ k e. absurd (omega arith);
    })

pub returns-then-has_anchor : goal.returns-then-has_anchor
returns-then-has_anchor c = λ rows look many.
    let other : c.args.count ≡ 0 → ⊥ = c.if-count-eq0.false in
    refuted (λ s. some_anchor c.args.nodes.now c.args.target c.has_anchor.result c.has_anchor.ensures c.if-has_anchor.true (s.not_alone (omega arith)))

pub returns-then-count-lt2 : goal.returns-then-count-lt2
returns-then-count-lt2 c = λ rows look many.
    let short : c.args.count < 2 = c.if-count-lt2.true in
    granted (record {
      not_alone = λ some. no_anchor c.args.nodes.now c.args.target c.has_anchor.result c.has_anchor.ensures c.if-has_anchor.false;
      not_shorter = λ k e. absurd (omega arith);
    })

pub returns : goal.returns
returns c = λ rows look many.
    let nodes = c.args.nodes.now in
    let two : 2 ≤ c.args.count = c.if-count-lt2.false in
    let k = c.args.count - 2 in
    let within : k < length rows = omega arith in
    let last : k + 2 ≡ length rows = omega arith in
    shortest_iff (graph_of nodes) c.args.target rows (row_of rows k) k
    (no_anchor nodes c.args.target c.has_anchor.result c.has_anchor.ensures c.if-has_anchor.false) last refl (c.is_shut.ensures nodes rows look within)
