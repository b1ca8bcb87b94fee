use Rattle.certpath_c.proofs.Pairs.{no_pair_yet, one_pair_more, all_pairs}
use Rattle.certpath_c.proofs.asked.pairs_of.Goals as goal

pub loop-voucher-init : goal.loop-voucher-init
loop-voucher-init c = no_pair_yet c.args.vouchers.now c.new-pairs.result c.new-pairs.ensures

pub loop-voucher-preserved : goal.loop-voucher-preserved
loop-voucher-preserved c = one_pair_more c.args.vouchers.now c.loop-voucher.voucher-index _ c.loop-voucher.pairs c.push_pair.new.pairs c.loop-voucher-test.true c.in_ok-push_pair.ensures c.loop-voucher.invariant

pub returns : goal.returns
returns c = all_pairs c.args.vouchers.now c.loop-voucher.voucher-index c.loop-voucher.pairs c.loop-voucher-test.false c.loop-voucher.invariant
