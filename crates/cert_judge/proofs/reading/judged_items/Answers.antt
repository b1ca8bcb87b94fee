use Rattle.std.proofs.Common.{[], ◌∷◌, ◌++◌, subst, length, arith, ◌<◌, ◌≤◌}
use Rattle.std.proofs.lemmas.List.{take_all}
use Rattle.cert_model.specs.View.{time_view}
use Rattle.cert_judge.specs.Classed.{AreClassed}
use Rattle.cert_judge.proofs.Classing.{classed_none, classed_more, judged_none, judged_more}
use Rattle.cert_judge.proofs.reading.judged_items.Goals as goal

pub loop-place-init : goal.loop-place-init
loop-place-init g c = ([], classed_none, rw c.in_ok-judged.ensures.items (judged_none (time_view c.args.moment.now)))

pub loop-place-preserved : goal.loop-place-preserved
loop-place-preserved g c =
    let os = c.args.items.now.items in
    let test = c.loop-place-test.true in
    let count = c.len-place-end.ensures.len in
    let lt : c.loop-place.place < length os = omega arith in
    let i = c.loop-place.invariant in
    let x = c.in_ok-item.ensures in (
      i.0 ++ x.0 ∷ [],
      classed_more os i.0 c.loop-place.place c.get.result.now x.0 lt c.get.ensures i.1 x.1 x.2,
      rw c.in_ok-push.ensures.items (judged_more (time_view c.args.moment.now) i.0 c.loop-place.judged.items x.0 c.in_ok-item.item i.2 x.3),
    )

pub returns : goal.returns
returns g c =
    let os = c.args.items.now.items in
    let test = c.loop-place-test.false in
    let count = c.len-place-end.ensures.len in
    let all : length os ≤ c.loop-place.place = omega arith in
    let i = c.loop-place.invariant in
    (i.0, subst (λ l. AreClassed l i.0) (take_all c.loop-place.place os all) i.1, i.2)
