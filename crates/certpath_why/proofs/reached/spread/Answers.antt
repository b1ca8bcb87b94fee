use Rattle.std.proofs.Common.{subst, arith, get_or}
use Rattle.std.proofs.lemmas.List.{take_all}
use Rattle.std.proofs.lemmas.List.Elements.{Contains-get_or}
use Rattle.certpath_why.specs.Found.{Spreads}
use Rattle.certpath_why.proofs.Spreading.{spreads_none, spreads_more}
use Rattle.certpath_why.proofs.reached.spread.Goals as goal

pub visit-requires : goal.visit-requires
visit-requires c =
    let lt = c.requires (get_or c.args.places.now c.loop-place.place-index 0) (Contains-get_or c.args.places.now c.loop-place.place-index 0 c.loop-place-test.true) in
    let count = c.loop-place.invariant.count in
    omega arith

pub loop-place-init : goal.loop-place-init
loop-place-init c = spreads_none _ _

pub loop-place-preserved : goal.loop-place-preserved
loop-place-preserved c = spreads_more c.args.places.now c.loop-place.place-index _ _ _ _ _ _ _ c.loop-place-test.true c.loop-place.invariant c.in_ok-visit.ensures

pub returns : goal.returns
returns c = subst (λ l. Spreads l c.args.marks.now.items c.args.queue.now.items c.loop-place.marks.items c.loop-place.queue.items) (take_all c.loop-place.place-index c.args.places.now c.loop-place-test.false) c.loop-place.invariant
