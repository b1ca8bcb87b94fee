use Rattle.std.proofs.Common.{rules, ◌≡◌, length, arith, subst}
use Rattle.std.specs.Prelude.{IfSome}
use Rattle.cert_vouchers.specs.Vouching.{VouchesBy, ArePlaced}
use Rattle.cert_vouchers.proofs.EachRow.{rows_put, rows_whole, rows_keyless, rows_bare, rows_empty}
use Rattle.cert_vouchers.proofs.lookup.rows_of.Goals as goal

pub returns-then-is_empty : goal.returns-then-is_empty
returns-then-is_empty g c =
    let none : length c.args.keys.now ≡ 0 = first_of (search rules, grind arith) in
    rows_keyless (VouchesBy c.args.pairs.now) c.args.keys.now c.args.items.now c.args.chosen.now c.in_ok-rows.rows.items none c.in_ok-rows.ensures.count

pub returns-then-has_none : goal.returns-then-has_none
returns-then-has_none g c =
    let none = c.has_none.ensures c.if-has_none.true in
    rows_bare (VouchesBy c.args.pairs.now) c.args.keys.now c.args.items.now c.args.chosen.now c.in_ok-rows.rows.items (λ key item h. none _ _ h) c.in_ok-rows.ensures.count c.in_ok-rows.ensures.empty

pub loop-place-init : goal.loop-place-init
loop-place-init g c = rows_empty (VouchesBy c.args.pairs.now) c.args.keys.now c.args.items.now c.args.chosen.now c.in_ok-rows.rows.items c.in_ok-rows.ensures.count c.in_ok-rows.ensures.empty

pub loop-place-preserved : goal.loop-place-preserved
loop-place-preserved g c =
    let keys = c.args.keys.now in
    let placed : ArePlaced keys (length keys) c.in-Some.places = subst (λ o. IfSome o (λ m. ArePlaced keys (length keys) m)) c.in-Some.is c.in_ok-places.ensures in
    rows_put c.args.pairs.now c.in-Some.places c.args.keys.now c.args.items.now c.args.chosen.now c.loop-place.place-index c.loop-place.rows.items c.put_item.new.rows.items placed c.requires c.loop-place-test.true c.loop-place.invariant c.in_ok-put_item.ensures

pub returns : goal.returns
returns g c =
    let end : c.loop-place.place-index ≡ length c.args.chosen.now = omega arith in
    rows_whole (VouchesBy c.args.pairs.now) c.args.keys.now c.args.items.now c.args.chosen.now c.loop-place.place-index c.loop-place.rows.items end c.loop-place.invariant
