use Rattle.std.proofs.Common.{◌≡◌, length, arith, get_or}
use Rattle.std.proofs.lemmas.List.{get_or_default}
use Rattle.cert_reasons.specs.Rows.{HasRow}
use Rattle.cert_reasons.proofs.Rowing.{no_rows, lists_none, lists_more, lists_all}
use Rattle.cert_reasons.proofs.rows.rows_of.Goals as goal

pub loop-place-init : goal.loop-place-init
loop-place-init c = λ s p. lists_none c.args.items.now s p c.args.places.now (HasRow c.new-rows.result s p) (no_rows c.new-rows.result s p c.new-rows.ensures.empty)

pub loop-place-preserved : goal.loop-place-preserved
loop-place-preserved c = λ s p.
    let ps = c.args.places.now in
    let k = c.loop-place.place-index in
    let v = get_or ps k 0 in
    lists_more c.args.items.now s p ps k v (HasRow c.loop-place.rows s p) (HasRow c.add_at.new.rows s p) c.loop-place-test.true (get_or_default ps k 0 v c.loop-place-test.true) (c.loop-place.invariant s p) (c.in_ok-add_at.ensures s p)

pub returns : goal.returns
returns c =
    let end : c.loop-place.place-index ≡ length c.args.places.now = omega arith in
    λ s p. lists_all c.args.items.now s p c.args.places.now c.loop-place.place-index (HasRow c.loop-place.rows s p) end (c.loop-place.invariant s p)
