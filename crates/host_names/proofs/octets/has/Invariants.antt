use Rattle.std.proofs.Common.{◌≡◌, drop}
use Rattle.host_names.specs.HostNames.{has}
use Rattle.host_names.proofs.octets.has.Given as goal

abbrev pub invariant-loop-one : goal.invariant-loop-one
invariant-loop-one l = has l.octet l.text ≡ has l.octet (drop l.one-index l.text)
