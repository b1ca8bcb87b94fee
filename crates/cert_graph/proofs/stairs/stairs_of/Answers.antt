-- One member more.
use Rattle.std.proofs.Common.{◌+◌, ◌∙◌, ◌∷◌, [], ◌++◌, List, get_or, Vec, Global, ap, sym, subst, refl}
use Rattle.std.specs.List.Sorted.{IsStrictlyIncreasing}
use Rattle.cert_graph.specs.declared.reach.Reach.{Reach}
use Rattle.cert_graph.specs.Reach.{Takes}
use Rattle.cert_graph.specs.Nodes.{graph_of}
use Rattle.cert_graph.proofs.ReachFacts.{beyond_takes, more_takes}
use Rattle.cert_graph.specs.declared.stairs.Stair.{Stair}
use Rattle.cert_graph.proofs.Climbing.{Climbed, climbed_past, climbed_on}
use Rattle.cert_graph.proofs.stairs.stairs_of.Goals as goal
use Rattle.cert_graph.proofs.stairs.stairs_of.Goals.{then-is_fit+then-not-is_at_most+in_ok-push, then-is_fit+else-not-is_at_most, else-is_fit}

pub loop-w-preserved : goal.loop-w-preserved
loop-w-preserved c =
    let g = graph_of c.args.nodes.now in
    let row = c.args.row.now in
    let members = c.deref-w-items.result.now in
    let i = c.loop-w.w-index in
    let up : IsStrictlyIncreasing members = subst IsStrictlyIncreasing (sym c.deref-w-items.ensures.value) c.args.group.now.members_ascend in
    elim c.if-is_fit.branch [
      | then-is_fit+then-not-is_at_most+in_ok-push w ↦
          let s : Stair = record { position = get_or members i 0; reach = w.reach_at-reach.result } in
          subst (λ (xs : List Stair). Climbed g row members (i + 1) xs c.if-is_fit.best) (sym (ap (λ (v : Vec Stair Global). v.items) w.stairs-is ∙ w.in_ok-push.ensures.items))
          (subst (λ (b : Reach). Climbed g row members (i + 1) (c.loop-w.stairs.items ++ s ∷ []) b) (sym w.best-is)
          (climbed_on g row members i c.loop-w.stairs.items s c.loop-w.best up c.loop-w-test.true refl w.reach_at-reach.ensures (c.is_fit.ensures.0 w.if-is_fit.true)
          (λ n t. beyond_takes w.reach_at-reach.result c.loop-w.best n (λ low. cc (w.if-not-is_at_most.true, w.is_at_most.ensures.1 low)) t) c.loop-w.invariant))
      | then-is_fit+else-not-is_at_most w ↦
          subst (λ (v : Vec Stair Global). Climbed g row members (i + 1) v.items c.if-is_fit.best) (sym w.stairs-is)
          (subst (λ (b : Reach). Climbed g row members (i + 1) c.loop-w.stairs.items b) (sym w.best-is)
          (climbed_past g row members i c.loop-w.stairs.items c.loop-w.best up c.loop-w-test.true
          (λ n o. more_takes w.reach_at-reach.result c.loop-w.best n (w.is_at_most.ensures.0 w.if-not-is_at_most.false) (subst (λ (r : Reach). Takes r n) (sym w.reach_at-reach.ensures) o.1)) c.loop-w.invariant))
      | else-is_fit w ↦
          subst (λ (v : Vec Stair Global). Climbed g row members (i + 1) v.items c.if-is_fit.best) (sym w.stairs-is)
          (subst (λ (b : Reach). Climbed g row members (i + 1) c.loop-w.stairs.items b) (sym w.best-is)
          (climbed_past g row members i c.loop-w.stairs.items c.loop-w.best up c.loop-w-test.true (λ n o. absurd (cc (w.if-is_fit.false, c.is_fit.ensures.1 o.0))) c.loop-w.invariant))
    ]
