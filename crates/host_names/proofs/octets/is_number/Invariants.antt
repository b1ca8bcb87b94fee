use Rattle.std.proofs.Common.{◌≡◌, drop}
use Rattle.host_names.specs.HostNames.{is_number}
use Rattle.host_names.proofs.octets.is_number.Given as goal

abbrev pub invariant-loop-one : goal.invariant-loop-one
invariant-loop-one l = is_number l.text ≡ is_number (drop l.one-index l.text)
