use Rattle.std.proofs.Common.{◌≡◌, arith, subst}
use Rattle.cert_judge.proofs.NamedFacts.{AreBelow, below_more}
use Rattle.certpath_why.proofs.directory.numbers_below.Goals as goal

pub loop-number-preserved : goal.loop-number-preserved
loop-number-preserved c = rw c.in_ok-push.ensures.items (below_more c.loop-number.number c.loop-number.numbers.items c.loop-number.invariant)

pub returns-clause-exact : goal.returns-clause-exact
returns-clause-exact c =
    let end : c.loop-number.number ≡ c.args.count = omega arith in
    (subst (λ k. AreBelow k c.loop-number.numbers.items) end c.loop-number.invariant).exact
