use Rattle.std.proofs.Common.{◌≡◌, ◌+◌, length, get_or, arith, sym, subst}
use Rattle.cert_graph.proofs.Sifted.{sifted_more, sifted_same, sifted_whole, nothing_added}
use Rattle.cert_judge.specs.Rows.{VouchesAt}
use Rattle.cert_judge.proofs.Mapped.{not_both}
use Rattle.cert_judge.proofs.vouch.Vouch.vouched_by.Goals as goal
use Rattle.cert_judge.proofs.vouch.Vouch.vouched_by.Goals.{then-vouches_at+in_ok-push, else-vouches_at}

pub loop-place-preserved : goal.loop-place-preserved
loop-place-preserved g c =
    let C = VouchesAt ((g.Self.Vouch.vouches_for c.args.self.now).Vouches) c.args.items.now c.args.key.now in
    let ps = c.args.chosen.now in
    let k = c.loop-place.place-index in
    let p = get_or ps k 0 in
    elim c.if-vouches_at.branch [
      | then-vouches_at+in_ok-push w ↦
          let at : p ≡ 0 + p = omega arith in
          rw (w.row-is, w.in_ok-push.ensures.items) (sifted_more 0 C ps k c.loop-place.row.items p c.requires c.loop-place-test.true c.loop-place.invariant at (c.vouches_at.ensures.0 w.if-vouches_at.true))
      | else-vouches_at w ↦
          rw w.row-is (sifted_same 0 C ps k c.loop-place.row.items c.loop-place.invariant (λ v at is. not_both _ (c.vouches_at.ensures.1 (subst C (sym (nothing_added p v at)) is)) w.if-vouches_at.false))
    ]

pub returns : goal.returns
returns g c =
    let end : c.loop-place.place-index ≡ length c.args.chosen.now = omega arith in
    record {
      ascends = c.loop-place.invariant.ascends;
      exact = sifted_whole (VouchesAt ((g.Self.Vouch.vouches_for c.args.self.now).Vouches) c.args.items.now c.args.key.now) c.args.chosen.now c.loop-place.place-index c.loop-place.row.items end c.loop-place.invariant;
    }
