use Rattle.std.proofs.Common.{ℕ, ◌+◌, ◌<◌, sym, subst, take, get_or, List, length, Vec, Global, arith}
use Rattle.std.specs.Prelude.{Contains}
use Rattle.std.proofs.lemmas.List.{take_all}
use Rattle.cert_graph.specs.declared.reach.Reach.{Reach}
use Rattle.cert_graph.specs.declared.reach.Reach.TheVariants.{No}
use Rattle.cert_graph.specs.Reach.{Takes, IsAtMost}
use Rattle.cert_search.specs.Rising.{AreRaised, IsGroup}
use Rattle.cert_search.proofs.Handing.{SoHanded, handed_more, handed_still, handed_all}
use Rattle.cert_search.proofs.rising.hand_on.Goals as goal
use Rattle.cert_search.proofs.rising.hand_on.Goals.{then-not-is_at_most+in_ok-raise_to, else-not-is_at_most}

pub loop-place-preserved : goal.loop-place-preserved
loop-place-preserved c =
    let nodes = c.args.nodes.now in
    let bests = c.args.bests.now in
    let first = c.args.handed.now in
    let handed = c.loop-place.handed in
    let offered = c.args.offers.now in
    let offers = c.loop-place.offers in
    let groups = c.args.groups.now in
    let i = c.loop-place.place-index in
    let x = get_or groups i 0 in
    let best = c.reach_at-best.result in
    let risen = c.loop-place.risen.items in
    let here = c.requires.within i 0 c.loop-place-test.true in
    let inside : get_or groups i 0 < length handed = omega (arith, here, c.loop-place.auto.handed, c.requires.whole) in
    elim c.if-not-is_at_most.branch [
      | then-not-is_at_most+in_ok-raise_to w ↦
          let above : IsAtMost best (get_or handed x No) → ⊥ = λ le. cc (w.if-not-is_at_most.true, c.is_at_most.ensures.1 le) in
          let is : IsGroup nodes x w.index.result.now = (here, w.index.ensures) in
          let next = w.raise_to.new.row in
          let after = w.raise_to.new.risen.items in
          let raised : AreRaised offers next (λ v n. Contains w.index.result.now.issued.items v × Takes best n) =
          subst (λ (vs : List ℕ). AreRaised offers next (λ v n. Contains vs v × Takes best n)) w.deref.ensures.value w.in_ok-raise_to.ensures.raised in
          subst (λ (v : Vec ℕ Global). SoHanded nodes bests first c.if-not-is_at_most.handed offered c.if-not-is_at_most.offers (take (i + 1) groups) v.items) (sym w.risen-is)
          (subst (λ (r : List Reach). SoHanded nodes bests first r offered c.if-not-is_at_most.offers (take (i + 1) groups) after) (sym w.handed-is)
          (subst (λ (r : List Reach). SoHanded nodes bests first _ offered r (take (i + 1) groups) after) (sym w.offers-is)
          (handed_more nodes bests first handed offered offers next groups i best w.index.result.now risen after c.loop-place-test.true inside is c.reach_at-best.ensures above raised w.in_ok-raise_to.ensures.risen c.loop-place.invariant)))
      | else-not-is_at_most w ↦
          subst (λ (v : Vec ℕ Global). SoHanded nodes bests first c.if-not-is_at_most.handed offered c.if-not-is_at_most.offers (take (i + 1) groups) v.items) (sym w.risen-is)
          (subst (λ (r : List Reach). SoHanded nodes bests first r offered c.if-not-is_at_most.offers (take (i + 1) groups) risen) (sym w.handed-is)
          (subst (λ (r : List Reach). SoHanded nodes bests first handed offered r (take (i + 1) groups) risen) (sym w.offers-is)
          (handed_still nodes bests first handed offered offers groups i best risen c.loop-place-test.true c.reach_at-best.ensures (c.is_at_most.ensures.0 w.if-not-is_at_most.false) c.loop-place.invariant)))
    ]

pub returns-clause-all_handed : goal.returns-clause-all_handed
returns-clause-all_handed c =
    handed_all c.args.nodes.now c.args.bests.now c.args.handed.now c.loop-place.handed c.args.offers.now c.loop-place.offers c.args.groups.now c.loop-place.risen.items
    (subst (λ (xs : List ℕ). SoHanded c.args.nodes.now c.args.bests.now c.args.handed.now c.loop-place.handed c.args.offers.now c.loop-place.offers xs c.loop-place.risen.items) (take_all c.loop-place.place-index c.args.groups.now c.loop-place-test.false)
    c.loop-place.invariant)
    c.requires.listed
