use Rattle.host_names.proofs.FirstLabels.{cut_at}
use Rattle.host_names.proofs.labels.first_label.Goals as goal

pub returns-then-octet-eq46 : goal.returns-then-octet-eq46
returns-then-octet-eq46 c = cut_at c.args.name.now c.loop-place.place c.loop-place-test.true c.loop-place.invariant c.if-octet-eq46.true
