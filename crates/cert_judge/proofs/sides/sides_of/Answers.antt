use Rattle.std.proofs.Common.{◌≡◌, length, get_or, arith}
use Rattle.cert_judge.proofs.StandingFacts.{default_is}
use Rattle.cert_judge.proofs.Siding.{two_few, two_many, two_all}
use Rattle.cert_judge.proofs.sides.sides_of.Goals as goal
use Rattle.cert_judge.proofs.sides.sides_of.Goals.{then-is_longer+in_ok-push, else-is_longer+in_ok-push-2}

pub loop-number-preserved : goal.loop-number-preserved
loop-number-preserved c =
    let row = c.args.row.now in
    let k = c.loop-number.number-index in
    let lt = c.loop-number-test.true in
    let few = c.loop-number.few.items in
    let many = c.loop-number.many.items in
    elim c.if-is_longer.branch [
      | then-is_longer+in_ok-push w ↦ rw (w.few-is, w.many-is, w.in_ok-push.ensures.items) (two_many row few many k (get_or row k 0) lt (default_is row k 0 lt) c.loop-number.invariant)
      | else-is_longer+in_ok-push-2 w ↦ rw (w.few-is, w.many-is, w.in_ok-push-2.ensures.items) (two_few row few many k (get_or row k 0) lt (default_is row k 0 lt) c.loop-number.invariant)
    ]

pub returns : goal.returns
returns c =
    let end : c.loop-number.number-index ≡ length c.args.row.now = omega arith in
    two_all c.args.row.now c.loop-number.few.items c.loop-number.many.items c.loop-number.number-index end c.loop-number.invariant
