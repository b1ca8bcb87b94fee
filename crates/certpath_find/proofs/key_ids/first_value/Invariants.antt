use Rattle.cert_model.specs.Extended.{under_ce}
use Rattle.cert_model.proofs.FirstUnder.{NoneBefore}
use Rattle.certpath_find.proofs.key_ids.first_value.Given as goal

abbrev pub invariant-loop-extension : goal.invariant-loop-extension
invariant-loop-extension l = NoneBefore (under_ce l.n) l.extensions l.extension-index
