-- What holds by remembered vouchers and permits.
use Rattle.std.proofs.Common.{◌≡◌, ℕ, List, subst}
use Rattle.cert_judge.specs.Vouching.{Vouching}
use Rattle.certpath_inputs.specs.cert_serving.specs.declared.permits.Permits.{Permits}
use Rattle.cert_vouchers.specs.declared.remembered.RememberedVouchers.{RememberedVouchers}
use Rattle.certpath_inputs.specs.Demands.{VouchesWhere}

-- holds by those that are equal to them
pub by_equal : (P : Vouching → Type 0) (v w : RememberedVouchers) (p q : Permits) → v ≡ w → p ≡ q → P (VouchesWhere p v.vouchers.now) → P (VouchesWhere q w.vouchers.now)
by_equal P v w p q e f h = subst (λ x. P (VouchesWhere x w.vouchers.now)) f (subst (λ y. P (VouchesWhere p y.vouchers.now)) e h)
