use Rattle.std.proofs.Common.{◌≡◌, take, false}
use Rattle.host_names.specs.HostNames.{has}
use Rattle.host_names.proofs.labels.first_label.Given as goal

abbrev pub invariant-loop-place : goal.invariant-loop-place
invariant-loop-place l = has 46 (take l.place l.name) ≡ false
