use Rattle.std.proofs.Common.{◌≡◌}
use Rattle.certpath_run.proofs.remembering.remembered_for.Given as goal

abbrev pub invariant-loop-item : goal.invariant-loop-item
invariant-loop-item l = l.remembered.vouchers.now ≡ l.fn.vouchers

abbrev pub invariant-loop-anchor : goal.invariant-loop-anchor
invariant-loop-anchor l = l.remembered.vouchers.now ≡ l.fn.vouchers
