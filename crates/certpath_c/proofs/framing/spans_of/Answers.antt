use Rattle.std.proofs.Common.{arith}
use Rattle.certpath_c.proofs.Spans.{item_fits, one_more}
use Rattle.certpath_c.proofs.framing.spans_of.Goals as goal

pub overflow_add-offset : goal.overflow_add-offset
overflow_add-offset c =
    let within = item_fits _ _ _ _ _ c.loop-k.invariant c.get-length.ensures in
    omega (arith, within, c.len-k-end.ensures.fits)

pub loop-k-preserved : goal.loop-k-preserved
loop-k-preserved c = rw c.in_ok-push.ensures.items (one_more _ _ _ _ _ c.loop-k.invariant c.get-length.ensures)
