use Rattle.std.proofs.Common.{length}
use Rattle.cert_vouchers.proofs.Progress.{FedTo}
use Rattle.cert_vouchers.proofs.reading.Reading.feed.Given as goal

abbrev pub invariant-loop-line : goal.invariant-loop-line
invariant-loop-line l = FedTo l.fn.self l.self l.piece l.rest

abbrev pub decreases-loop-line : goal.decreases-loop-line
decreases-loop-line l = length l.rest
