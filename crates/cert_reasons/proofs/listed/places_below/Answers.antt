use Rattle.std.proofs.Common.{◌≡◌, arith, subst}
use Rattle.cert_judge.proofs.NamedFacts.{AreBelow, below_more}
use Rattle.cert_reasons.proofs.listed.places_below.Goals as goal

pub loop-place-preserved : goal.loop-place-preserved
loop-place-preserved c = rw c.in_ok-push.ensures.items (below_more c.loop-place.place c.loop-place.places.items c.loop-place.invariant)

pub returns-clause-exact : goal.returns-clause-exact
returns-clause-exact c =
    let end : c.loop-place.place ≡ c.args.count = omega arith in
    (subst (λ k. AreBelow k c.loop-place.places.items) end c.loop-place.invariant).exact
