use Rattle.std.proofs.Common.{◌≡◌, ◌+◌, length, get_or, arith, sym, subst}
use Rattle.cert_graph.proofs.Sifted.{sifted_more, sifted_same, nothing_added}
use Rattle.cert_judge.proofs.Mapped.{not_both}
use Rattle.cert_reasons.specs.Listed.{IsVouchedAt}
use Rattle.cert_reasons.proofs.Listing.{sifted_places}
use Rattle.cert_reasons.proofs.listed.vouched_among.Goals as goal
use Rattle.cert_reasons.proofs.listed.vouched_among.Goals.{then-is_vouched_at+in_ok-push, else-is_vouched_at}

pub loop-place-preserved : goal.loop-place-preserved
loop-place-preserved g c =
    let C = IsVouchedAt (g.V.Vouch.vouches_for c.args.vouch.now) c.args.items.now c.args.key.now in
    let ps = c.args.lists.now in
    let k = c.loop-place.place-index in
    let p = get_or ps k 0 in
    elim c.if-is_vouched_at.branch [
      | then-is_vouched_at+in_ok-push w ↦
          let at : p ≡ 0 + p = omega arith in
          rw (w.found-is, w.in_ok-push.ensures.items) (sifted_more 0 C ps k c.loop-place.found.items p c.requires c.loop-place-test.true c.loop-place.invariant at (c.is_vouched_at.ensures.0 w.if-is_vouched_at.true))
      | else-is_vouched_at w ↦
          rw w.found-is (sifted_same 0 C ps k c.loop-place.found.items c.loop-place.invariant (λ v at is. not_both _ (c.is_vouched_at.ensures.1 (subst C (sym (nothing_added p v at)) is)) w.if-is_vouched_at.false))
    ]

pub returns : goal.returns
returns g c =
    let end : c.loop-place.place-index ≡ length c.args.lists.now = omega arith in
    sifted_places (IsVouchedAt (g.V.Vouch.vouches_for c.args.vouch.now) c.args.items.now c.args.key.now) c.args.lists.now c.loop-place.place-index c.loop-place.found.items end c.loop-place.invariant
