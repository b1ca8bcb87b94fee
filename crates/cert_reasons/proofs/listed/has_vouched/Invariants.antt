use Rattle.std.proofs.Common.{ℕ, ◌<◌, get_or}
use Rattle.cert_reasons.specs.Listed.{IsVouchedAt}
use Rattle.cert_reasons.proofs.listed.has_vouched.Given as goal

abbrev pub invariant-loop-place : goal.invariant-loop-place
invariant-loop-place g l = (k d : ℕ) → k < l.place-index → IsVouchedAt (g.V.Vouch.vouches_for l.vouch) l.items l.key (get_or l.lists k d) → ⊥
