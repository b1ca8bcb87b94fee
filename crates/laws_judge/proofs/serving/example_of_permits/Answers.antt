use Rattle.std.proofs.Common.{lit<, refl}
use Rattle.laws_items.proofs.OfClasses.{null_classed}
use Rattle.laws_judge.proofs.OfServing.{permits, processes}
use Rattle.laws_judge.proofs.serving.example_of_permits.Goals as goal

pub returns : goal.returns
returns c = (permits, processes, null_classed, (lit< tt, λ d. refl))
