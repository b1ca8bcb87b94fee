use Rattle.std.proofs.Common.{◌≡◌, length, get_or, arith}
use Rattle.cert_judge.specs.Copies.{IsIn}
use Rattle.cert_judge.proofs.StandingFacts.{default_is}
use Rattle.cert_judge.proofs.Listed.{lists_of, some_all}
use Rattle.cert_judge.proofs.Siding.{joined_more}
use Rattle.cert_judge.proofs.sides.joined.Goals as goal

pub loop-number-preserved : goal.loop-number-preserved
loop-number-preserved c =
    let numbers = c.args.numbers.now in
    let k = c.loop-number.number-index in
    let lt = c.loop-number-test.true in
    joined_more (lists_of c.args.lists.now) numbers c.loop-number.all.items c.append.new.all.items k (get_or numbers k 0) lt (default_is numbers k 0 lt) c.in_ok-append.ensures c.loop-number.invariant

pub returns-clause-exact : goal.returns-clause-exact
returns-clause-exact c = λ v.
    let numbers = c.args.numbers.now in
    let end : c.loop-number.number-index ≡ length numbers = omega arith in
    let a = some_all (λ d. IsIn (lists_of c.args.lists.now) d v) numbers c.loop-number.number-index end in
    let s = c.put_in_order.ensures.same v in
    (λ h. a.0 ((c.loop-number.invariant v).0 (s.0 h)), λ x. s.1 ((c.loop-number.invariant v).1 (a.1 x)))
