use Rattle.std.proofs.Common.{length}
use Rattle.host_names.proofs.labels.+some_label_has.Given as goal

abbrev pub decreases-some_label_has : goal.decreases-some_label_has
decreases-some_label_has l = length l.name.now
