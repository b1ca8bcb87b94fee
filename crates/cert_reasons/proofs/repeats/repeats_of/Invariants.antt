use Rattle.cert_reasons.proofs.Repeating.{AreSeen}
use Rattle.cert_reasons.proofs.repeats.repeats_of.Given as goal

abbrev pub invariant-loop-extension : goal.invariant-loop-extension
invariant-loop-extension l = AreSeen l.extensions l.extension-index l.seen l.repeats.items
