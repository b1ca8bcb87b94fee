use Rattle.std.proofs.Common.{map, take}
use Rattle.cert_model.specs.View.{ext_view}
use Rattle.cert_judge.specs.Further.{AreFurther}
use Rattle.cert_judge.proofs.judging.further_of.Given as goal

abbrev pub invariant-loop-extension : goal.invariant-loop-extension
invariant-loop-extension l = AreFurther (map ext_view (take l.extension-index l.extensions)) (map (λ s. s.now) l.further.items)
