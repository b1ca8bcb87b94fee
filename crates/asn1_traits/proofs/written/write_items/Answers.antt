use Rattle.std.proofs.Common.{rules, arith, ◌≡◌, ◌∷◌}
use Rattle.asn1_traits.proofs.Sequences.{sent_more, sent_stops, sent_too_long}
use Rattle.asn1_traits.proofs.written.write_items.Goals as goal

pub returns-in-Err : goal.returns-in-Err
returns-in-Err g c =
    let e : c.loop-item.rest.now ≡ c.in-Some.item.now ∷ c.in-Some.after.now = search rules in
    record {
      ok = tt;
      err = sent_stops g.T.ToDer.element g.T.ToDer.is_der g.T.ToDer.grows c.args.items.now c.loop-item.rest.now c.in-Some.after.now c.in-Some.item.now _ _ _ _ _ _ _ c.in-Err.e c.loop-item.invariant e c.in-Err.ensures.octets.err;
    }

pub returns-in-None : goal.returns-in-None
returns-in-None g c =
    let e : c.loop-item.rest.now ≡ c.in-Some.item.now ∷ c.in-Some.after.now = search rules in
    record {
      ok = tt;
      err = sent_too_long g.T.ToDer.element g.T.ToDer.is_der g.T.ToDer.grows c.args.items.now c.loop-item.rest.now c.in-Some.after.now c.in-Some.item.now _ _ _ _ _ _ _ c.in-Ok.n c.loop-item.invariant e c.in-Ok.ensures.octets.ok (omega (arith, c.in-None.ensures));
    }

pub loop-item-preserved : goal.loop-item-preserved
loop-item-preserved g c =
    let e : c.loop-item.rest.now ≡ c.in-Some.item.now ∷ c.in-Some.after.now = search rules in
    sent_more g.T.ToDer.element g.T.ToDer.is_der g.T.ToDer.grows c.args.items.now c.loop-item.rest.now c.in-Some.after.now c.in-Some.item.now _ _ _ _ _ _ c.loop-item.total c.in-Ok.n c.in-Some-checked_add.n
    c.loop-item.invariant e c.in-Ok.ensures.octets.ok c.in-Some-checked_add.ensures.1
