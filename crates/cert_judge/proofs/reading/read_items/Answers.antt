use Rattle.std.proofs.Common.{[], ◌∷◌, map, subst, length, arith, ◌<◌, ◌≤◌}
use Rattle.std.proofs.lemmas.List.{take_all, map-append}
use Rattle.cert_judge.specs.Items.{item_of}
use Rattle.cert_judge.specs.Classed.{AreClassed}
use Rattle.cert_judge.proofs.Classing.{classed_none, classed_more}
use Rattle.cert_judge.proofs.reading.read_items.Goals as goal

pub loop-place-init : goal.loop-place-init
loop-place-init g c = rw c.in_ok-read.ensures.items classed_none

pub loop-place-preserved : goal.loop-place-preserved
loop-place-preserved g c =
    let os = c.args.items.now.items in
    let test = c.loop-place-test.true in
    let count = c.len-place-end.ensures.len in
    let lt : c.loop-place.place < length os = omega arith in
    let x = item_of c.in_ok-item.item in
    let e = c.in_ok-item.ensures in
    rw c.in_ok-push.ensures.items (rw (map-append item_of c.loop-place.read.items (c.in_ok-item.item ∷ []))
    (classed_more os (map item_of c.loop-place.read.items) c.loop-place.place c.get.result.now x lt c.get.ensures c.loop-place.invariant e.0 e.1))

pub returns : goal.returns
returns g c =
    let os = c.args.items.now.items in
    let test = c.loop-place-test.false in
    let count = c.len-place-end.ensures.len in
    let all : length os ≤ c.loop-place.place = omega arith in
    subst (λ l. AreClassed l (map item_of c.loop-place.read.items)) (take_all c.loop-place.place os all) c.loop-place.invariant
