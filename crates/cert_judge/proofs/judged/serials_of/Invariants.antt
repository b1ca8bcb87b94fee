use Rattle.std.proofs.Common.{◌≡◌, map, take}
use Rattle.cert_model.specs.View.{entry_view}
use Rattle.cert_judge.proofs.judged.serials_of.Given as goal

abbrev pub invariant-loop-entry : goal.invariant-loop-entry
invariant-loop-entry l = map (λ s. s.now) l.serials.items ≡ map (λ e. (entry_view e).serial) (take l.entry-index l.entries)
