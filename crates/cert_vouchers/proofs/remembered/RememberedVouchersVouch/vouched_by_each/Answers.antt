use Rattle.std.proofs.Common.{subst, Bor, ℕ, List}
use Rattle.std.proofs.lemmas.List.{get_or_default}
use Rattle.cert_judge.specs.Rows.{IsRow}
use Rattle.cert_vouchers.specs.Vouching.{VouchesBy}
use Rattle.cert_judge.proofs.RowFacts.{rows_more}
use Rattle.cert_vouchers.proofs.remembered.RememberedVouchersVouch.vouched_by_each.Goals as goal

pub loop-key-preserved : goal.loop-key-preserved
loop-key-preserved c =
    let V = VouchesBy c.args.self.now.vouchers.now.pairs in
    let keys = c.args.keys.now in
    let k = c.loop-key.key-index in
    rw c.in_ok-push.ensures.items (rows_more V keys c.args.items.now c.args.chosen.now k c.loop-key.rows.items c.in_ok-vouched_by.field-0
    (λ d. subst (λ (b : Bor (List ℕ)). IsRow V c.args.items.now c.args.chosen.now b.now c.in_ok-vouched_by.field-0.items) (get_or_default keys k _ d c.loop-key-test.true) c.in_ok-vouched_by.ensures) c.loop-key.invariant)
