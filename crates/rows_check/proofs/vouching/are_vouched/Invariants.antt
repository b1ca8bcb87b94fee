use Rattle.std.proofs.Common.{ℕ, ◌<◌, get_or}
use Rattle.rows_check.specs.declared.vouching.VouchedPair.{VouchedPair}
use Rattle.rows_check.specs.Vouching.{IsVouched}
use Rattle.rows_check.proofs.vouching.are_vouched.Given as goal

abbrev pub invariant-loop-pair : goal.invariant-loop-pair
invariant-loop-pair l = (k : ℕ) (d : VouchedPair) → k < l.pair-index → IsVouched l.key l.item (get_or l.pairs k d) → ⊥
