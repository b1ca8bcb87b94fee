use Rattle.std.proofs.Common.{◌≡◌, ◌+◌, length, get_or, arith, sym, subst}
use Rattle.cert_graph.proofs.Sifted.{sifted_more, sifted_same, nothing_added}
use Rattle.cert_judge.proofs.Mapped.{not_both}
use Rattle.cert_reasons.specs.Listed.{HasSerialAt}
use Rattle.cert_reasons.proofs.Listing.{sifted_places}
use Rattle.cert_reasons.proofs.listed.with_serial.Goals as goal
use Rattle.cert_reasons.proofs.listed.with_serial.Goals.{then-has_serial_at+in_ok-push, else-has_serial_at}

pub loop-place-preserved : goal.loop-place-preserved
loop-place-preserved c =
    let C = HasSerialAt c.args.items.now c.args.serial.now in
    let ps = c.args.lists.now in
    let k = c.loop-place.place-index in
    let p = get_or ps k 0 in
    elim c.if-has_serial_at.branch [
      | then-has_serial_at+in_ok-push w ↦
          let at : p ≡ 0 + p = omega arith in
          rw (w.found-is, w.in_ok-push.ensures.items) (sifted_more 0 C ps k c.loop-place.found.items p c.requires c.loop-place-test.true c.loop-place.invariant at (c.has_serial_at.ensures.0 w.if-has_serial_at.true))
      | else-has_serial_at w ↦
          rw w.found-is (sifted_same 0 C ps k c.loop-place.found.items c.loop-place.invariant (λ v at is. not_both _ (c.has_serial_at.ensures.1 (subst C (sym (nothing_added p v at)) is)) w.if-has_serial_at.false))
    ]

pub returns : goal.returns
returns c =
    let end : c.loop-place.place-index ≡ length c.args.lists.now = omega arith in
    sifted_places (HasSerialAt c.args.items.now c.args.serial.now) c.args.lists.now c.loop-place.place-index c.loop-place.found.items end c.loop-place.invariant
