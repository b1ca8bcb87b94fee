use Rattle.std.proofs.Common.{◌≡◌, length, arith, subst}
use Rattle.certpath_why.specs.Firsts.{AreFirstsOf}
use Rattle.certpath_why.proofs.Firsting.{known_none, firsts_none, firsts_more}
use Rattle.certpath_why.proofs.firsts.firsts_of.Goals as goal

pub loop-number-init : goal.loop-number-init
loop-number-init c = (known_none _ c.new-known.result c.new-known.ensures.empty, firsts_none _ _ c.in_ok-firsts.ensures.items)

pub loop-number-preserved : goal.loop-number-preserved
loop-number-preserved c = (
  c.in_ok-first.ensures.known,
  rw c.in_ok-push.ensures.items (firsts_more c.args.rows.now c.loop-number.number c.loop-number.firsts.items c.in_ok-first.first c.loop-number.invariant.1 c.in_ok-first.ensures.first),
)

pub returns : goal.returns
returns c =
    let end : c.loop-number.number ≡ length c.args.rows.now = omega (arith, c.loop-number-test.false) in
    subst (λ k. AreFirstsOf c.args.rows.now k c.loop-number.firsts.items) end c.loop-number.invariant.1
