use Rattle.std.proofs.Common.{◌≢◌, ℕ, ◌<◌, get_or}
use Rattle.cert_vouchers.specs.VoucherFile.{line_feed}
use Rattle.cert_vouchers.proofs.lines.line_end.Given as goal

abbrev pub invariant-loop-place : goal.invariant-loop-place
invariant-loop-place l = (j d : ℕ) → j < l.place → get_or l.text j d ≢ line_feed
