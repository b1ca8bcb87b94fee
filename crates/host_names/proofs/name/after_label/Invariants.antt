use Rattle.std.proofs.Common.{◌≡◌, drop, false}
use Rattle.host_names.specs.Names.{after_label}
use Rattle.host_names.proofs.name.after_label.Given as goal

abbrev pub invariant-loop-place : goal.invariant-loop-place
invariant-loop-place l = after_label false l.name ≡ after_label l.begun (drop l.place l.name)
