-- A front of the messages was taken.
use Rattle.std.proofs.Common.{length, map}
use Rattle.x509_validate.specs.View.{message_view}
use Rattle.x509_validate.proofs.Told.{Progress}
use Rattle.x509_validate.proofs.logging.log_each.Given as goal

abbrev pub invariant-loop-message : goal.invariant-loop-message
invariant-loop-message g l = Progress g.L.Logger.warns g.L.Logger.errs l.initial.l (map message_view l.initial.rest) l.l (map message_view l.rest)

abbrev pub decreases-loop-message : goal.decreases-loop-message
decreases-loop-message g l = length l.rest
