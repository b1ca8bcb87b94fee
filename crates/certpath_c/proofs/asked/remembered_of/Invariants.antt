use Rattle.std.proofs.Common.{◌≡◌}
use Rattle.certpath_c.proofs.asked.remembered_of.Given as goal

abbrev pub invariant-loop-k : goal.invariant-loop-k
invariant-loop-k l = l.remembered.vouchers.now ≡ l.inputs.vouchers
