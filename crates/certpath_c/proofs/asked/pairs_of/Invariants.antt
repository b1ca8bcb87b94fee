use Rattle.std.proofs.Common.{drop}
use Rattle.certpath_c.proofs.Pairs.{SoFar}
use Rattle.certpath_c.proofs.asked.pairs_of.Given as goal

abbrev pub invariant-loop-voucher : goal.invariant-loop-voucher
invariant-loop-voucher l = SoFar l.vouchers (drop l.voucher-index l.vouchers) l.pairs
