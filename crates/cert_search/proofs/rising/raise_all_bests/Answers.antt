use Rattle.std.proofs.Common.{ℕ, ◌+◌, ◌<◌, ◌≤◌, ◌≡◌, ◌++◌, ◌∷◌, [], ◌∙◌, sym, subst, ap, get_or, List, length, Vec, Global, arith}
use Rattle.cert_graph.specs.declared.reach.Reach.{Reach}
use Rattle.cert_graph.specs.declared.reach.Reach.TheVariants.{No}
use Rattle.cert_graph.specs.declared.nodes.Group.{Group}
use Rattle.cert_graph.specs.Reach.{IsAtMost}
use Rattle.cert_search.specs.Rising.{IsGroup}
use Rattle.cert_search.proofs.Handing.{SoBest, best_more, best_still, best_all}
use Rattle.cert_search.proofs.rising.raise_all_bests.Goals as goal
use Rattle.cert_search.proofs.rising.raise_all_bests.Goals.{then-not-is_at_most+in_ok-push, else-not-is_at_most}

pub loop-place-preserved : goal.loop-place-preserved
loop-place-preserved c =
    let nodes = c.args.nodes.now in
    let row = c.args.row.now in
    let first = c.args.bests.now in
    let bests = c.loop-place.bests in
    let i = c.loop-place.place in
    let group = c.group-item.result in
    let groups = c.loop-place.groups.items in
    let best = c.offer_of-best.result in
    let is : IsGroup nodes i group = subst (λ (gs : List Group). (i < length gs) × (group ≡ get_or gs i group)) c.deref-group-items.ensures.value (c.loop-place-test.true, c.group-item.is) in
    let here = is.0 in
    let inside : i < length bests = omega (arith, here, c.loop-place.auto.bests, c.requires.whole) in
    elim c.if-not-is_at_most.branch [
      | then-not-is_at_most+in_ok-push w ↦
          let above : IsAtMost best (get_or bests i No) → ⊥ = λ le. cc (w.if-not-is_at_most.true, c.is_at_most.ensures.1 le) in
          let pushed : c.if-not-is_at_most.groups.items ≡ groups ++ i ∷ [] = ap (λ (xs : Vec ℕ Global). xs.items) w.groups-is ∙ w.in_ok-push.ensures.items in
          subst (λ (xs : List ℕ). SoBest nodes row first c.if-not-is_at_most.bests (i + 1) xs) (sym pushed)
          (subst (λ (r : List Reach). SoBest nodes row first r (i + 1) (groups ++ i ∷ [])) (sym w.bests-is)
          (best_more nodes row first bests i group best groups inside is c.offer_of-best.ensures above c.loop-place.invariant))
      | else-not-is_at_most w ↦
          subst (λ (xs : Vec ℕ Global). SoBest nodes row first c.if-not-is_at_most.bests (i + 1) xs.items) (sym w.groups-is)
          (subst (λ (r : List Reach). SoBest nodes row first r (i + 1) groups) (sym w.bests-is)
          (best_still nodes row first bests i group best groups is c.offer_of-best.ensures (c.is_at_most.ensures.0 w.if-not-is_at_most.false) (c.requires.below i group is) c.loop-place.invariant))
    ]

pub returns-clause-bests : goal.returns-clause-bests
returns-clause-bests c =
    best_all c.args.nodes.now c.args.row.now c.args.bests.now c.loop-place.bests c.loop-place.place c.loop-place.groups.items
    (subst (λ (gs : List Group). length gs ≤ c.loop-place.place) c.deref-group-items.ensures.value c.loop-place-test.false) c.loop-place.invariant
