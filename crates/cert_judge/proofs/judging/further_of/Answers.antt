use Rattle.std.proofs.Common.{map}
use Rattle.cert_judge.proofs.Mapped.{not_both}
use Rattle.cert_judge.proofs.FurtherFacts.{next_same, next_more}
use Rattle.cert_judge.proofs.judging.further_of.Goals as goal
use Rattle.cert_judge.proofs.judging.further_of.Goals.{then-not-is_processed_here+in_ok-push, else-not-is_processed_here}

pub loop-extension-preserved : goal.loop-extension-preserved
loop-extension-preserved c =
    let xs = c.args.extensions.now in
    let k = c.loop-extension.extension-index in
    let lt = c.loop-extension-test.true in
    let bs = c.loop-extension.further.items in
    elim c.if-not-is_processed_here.branch [
      | then-not-is_processed_here+in_ok-push w ↦ rw (w.further-is, w.in_ok-push.ensures.items) (next_more xs k _ bs lt c.loop-extension.invariant (λ p. not_both _ (c.is_processed_here.ensures.1 p) w.if-not-is_processed_here.true))
      | else-not-is_processed_here w ↦ rw w.further-is (next_same xs k _ (map (λ s. s.now) bs) lt c.loop-extension.invariant (c.is_processed_here.ensures.0 w.if-not-is_processed_here.false))
    ]
