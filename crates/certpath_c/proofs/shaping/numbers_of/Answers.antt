use Rattle.std.proofs.Common.{arith}
use Rattle.certpath_c.proofs.Shapes.{one_shape_more, all_shapes}
use Rattle.certpath_c.proofs.shaping.numbers_of.Goals as goal

pub loop-k-preserved : goal.loop-k-preserved
loop-k-preserved c = rw c.in_ok-push.ensures.items (one_shape_more _ _ _ _ _ c.loop-k.invariant c.get.ensures c.shape_number.ensures)

pub returns : goal.returns
returns c = all_shapes _ _ _ (omega (arith, c.loop-k-test.false, c.len-k-end.ensures.len)) c.loop-k.invariant
