-- A smaller position that would do ends the test; if there is none, it goes on.
use Rattle.std.proofs.Common.{◌≡◌, ◌≤◌, Bool, List, drop, ℕ, ◌+◌, ◌-◌, ◌<◌, length, get_or, true, cond, not, arith, sym, subst, ap, ◌∙◌, refl}
use Rattle.std.proofs.lemmas.List.{drop_all}
use Rattle.std.specs.Prelude.{◌↔◌}
use Rattle.cert_graph.specs.Adequate.{row_of}
use Rattle.cert_graph.specs.Steps.{Lowest, one_of}
use Rattle.cert_graph.specs.Nodes.{graph_of}
use Rattle.cert_graph.proofs.Checks.{lowest_refused, lowest_goes_on, count_small}
use Rattle.cert_graph.proofs.TableFacts.{refuted, granted}
use Rattle.cert_graph.proofs.shown.is_lowest.Goals as goal

pub loop-issuer-init : goal.loop-issuer-init
loop-issuer-init c =
    let none : 0 ≤ 0 = omega arith in
    let left : length c.args.issuers.now + 0 ≡ length c.args.issuers.now = omega arith in record {
      small = none;
      left = left;
      same = λ rows look long. (λ x. x, λ x. x);
    }

pub returns-then-may_take_below : goal.returns-then-may_take_below
returns-then-may_take_below c = λ rows look long.
    let nodes = c.args.nodes.now in
    let is = c.args.issuers.now in
    let i = c.loop-issuer.issuer-index in
    let left : c.loop-issuer.left + i ≡ length is = c.loop-issuer.invariant.left in
    let within : i < length is = c.loop-issuer-test.true in
    let k = c.loop-issuer.left - 1 in
    let rest : k + (i + 1) ≡ length is = omega arith in
    let inside : k < length rows = omega (arith, long) in
    let row = row_of rows k in
    refuted (λ n. lowest_refused (graph_of nodes) rows c.loop-issuer.last c.loop-issuer.counted is i row k within refl rest
    ((c.may_take_below.ensures nodes rows look inside).0 c.if-may_take_below.true) ((c.loop-issuer.invariant.same rows look long).0 n))

pub loop-issuer-preserved : goal.loop-issuer-preserved
loop-issuer-preserved c =
    let nodes = c.args.nodes.now in
    let is = c.args.issuers.now in
    let i = c.loop-issuer.issuer-index in
    let left : c.loop-issuer.left + i ≡ length is = c.loop-issuer.invariant.left in
    let small : c.loop-issuer.counted ≤ i = c.loop-issuer.invariant.small in
    let within : i < length is = c.loop-issuer-test.true in
    let k = c.loop-issuer.left - 1 in
    let rest : k + (i + 1) ≡ length is = omega arith in
    let p = get_or is i 0 in
    let counts : c.loop-issuer.counted + one_of (graph_of nodes) p ≡ c.counted_on-counted.result =
    ap (λ (b : Bool). c.loop-issuer.counted + cond (not b) 1 0) (sym c.is_self_issued.ensures) ∙ sym c.counted_on-counted.ensures in
    record {
      small = count_small (graph_of nodes) c.loop-issuer.counted p i c.counted_on-counted.result counts small;
      left = rest;
      same = λ rows look long.
          let inside : k < length rows = omega (arith, long) in
          let before = c.loop-issuer.invariant.same rows look long in
          let on = lowest_goes_on (graph_of nodes) rows c.loop-issuer.last c.loop-issuer.counted is i (row_of rows k) k within refl rest
          (λ x. let yes : c.may_take_below.result ≡ true = (c.may_take_below.ensures nodes rows look inside).1 x in cc) in
          subst (λ (n : ℕ). Lowest (graph_of nodes) rows c.args.target 0 is ↔ Lowest (graph_of nodes) rows p n (drop (i + 1) is)) counts
          (λ n. on.0 (before.0 n), λ n. before.1 (on.1 n));
    }

pub returns : goal.returns
returns c = λ rows look long.
    let g = graph_of c.args.nodes.now in
    let is = c.args.issuers.now in
    let i = c.loop-issuer.issuer-index in
    granted ((c.loop-issuer.invariant.same rows look long).1
    (subst (λ (zs : List ℕ). Lowest g rows c.loop-issuer.last c.loop-issuer.counted zs) (sym (drop_all i is c.loop-issuer-test.false)) tt))
