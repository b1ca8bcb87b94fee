use Rattle.std.proofs.Common.{arith}
use Rattle.certpath_c.proofs.ClassNumbers.{one_number_more, all_numbers}
use Rattle.certpath_c.proofs.classes.numbers_of.Goals as goal

pub loop-k-preserved : goal.loop-k-preserved
loop-k-preserved c = rw c.in_ok-push.ensures.items (one_number_more _ _ _ _ _ c.loop-k.invariant c.get.ensures c.in_ok-number.ensures)

pub returns : goal.returns
returns c = all_numbers _ _ _ (omega (arith, c.loop-k-test.false, c.len-k-end.ensures.len)) c.loop-k.invariant
