-- The best of the positions so far is the best of one more.
use Rattle.std.proofs.Common.{◌≡◌, ℕ, ◌+◌, true, List, take, get_or, sym, subst}
use Rattle.std.specs.Prelude.{◌↔◌, ◌⊎◌}
use Rattle.std.proofs.lemmas.List.{take_all}
use Rattle.cert_graph.specs.declared.reach.Reach.{Reach}
use Rattle.cert_graph.specs.Reach.{Takes}
use Rattle.cert_graph.specs.Adequate.{at_row}
use Rattle.cert_graph.specs.Groups.{IsOffered}
use Rattle.cert_graph.proofs.GroupFacts.{best_more, best_same}
use Rattle.cert_graph.proofs.rows.best_of.Goals as goal
use Rattle.cert_graph.proofs.rows.best_of.Goals.{then-is_fit, else-is_fit}

pub loop-position-preserved : goal.loop-position-preserved
loop-position-preserved c =
    let nodes = c.args.nodes.now in
    let row = c.args.row.now in
    let xs = c.args.positions.now in
    let i = c.loop-position.position-index in
    let best = c.loop-position.best in
    elim c.if-is_fit.branch [
      | then-is_fit w ↦
          best_more nodes row xs i best c.if-is_fit.best c.loop-position-test.true c.loop-position.invariant (c.is_fit.ensures.0 w.if-is_fit.true)
          (λ d. subst (λ (r : Reach). Takes r d ↔ (Takes best d ⊎ Takes (at_row row (get_or xs i 0)) d)) (sym w.best-is)
          (subst (λ (r : Reach). Takes w.greater-best.result d ↔ (Takes best d ⊎ Takes r d)) w.reach_at.ensures (w.greater-best.ensures d)))
      | else-is_fit w ↦
          subst (λ (r : Reach). (d : ℕ) → Takes r d ↔ IsOffered nodes row (take (i + 1) xs) d) (sym w.best-is)
          (best_same nodes row xs i best c.loop-position-test.true c.loop-position.invariant (λ fit. let yes : c.is_fit.result ≡ true = c.is_fit.ensures.1 fit in cc))
    ]

pub returns : goal.returns
returns c =
    subst (λ (xs : List ℕ). (d : ℕ) → Takes c.loop-position.best d ↔ IsOffered c.args.nodes.now c.args.row.now xs d)
    (take_all c.loop-position.position-index c.args.positions.now c.loop-position-test.false) c.loop-position.invariant
