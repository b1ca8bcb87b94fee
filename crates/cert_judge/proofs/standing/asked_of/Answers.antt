use Rattle.std.proofs.Common.{◌≡◌, refl, length, get_or, arith}
use Rattle.cert_judge.proofs.StandingFacts.{default_is}
use Rattle.cert_judge.proofs.SerialFacts.{before_found, before_none, before_asked}
use Rattle.cert_judge.proofs.standing.asked_of.Goals as goal
use Rattle.cert_judge.proofs.standing.asked_of.Goals.{in-Some+in_ok-push, in_default}

pub loop-place-preserved : goal.loop-place-preserved
loop-place-preserved c =
    let js = c.args.items.now in
    let places = c.args.places.now in
    let k = c.loop-place.place-index in
    let p = get_or places k 0 in
    let lt = c.loop-place-test.true in
    let at : p ≡ get_or places k p = default_is places k 0 lt in
    let asked = c.loop-place.asked.items in
    elim c.match-serial_at.branch [
      | in-Some+in_ok-push w ↦ rw (w.asked-is, w.in_ok-push.ensures.items) (before_found js places k p asked w.in-Some.serial lt at c.loop-place.invariant w.in-Some.ensures.found)
      | in_default w ↦ rw w.asked-is (before_none js places k p asked lt at c.loop-place.invariant (w.in_default.ensures.only refl))
    ]

pub returns : goal.returns
returns c =
    let end : c.loop-place.place-index ≡ length c.args.places.now = omega arith in
    before_asked c.args.items.now c.args.places.now c.loop-place.place-index c.loop-place.asked.items end c.loop-place.invariant
