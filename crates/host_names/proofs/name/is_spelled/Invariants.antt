use Rattle.std.proofs.Common.{◌≡◌, drop, false}
use Rattle.host_names.specs.Names.{is_spelled}
use Rattle.host_names.proofs.name.is_spelled.Given as goal

abbrev pub invariant-loop-octet : goal.invariant-loop-octet
invariant-loop-octet l = is_spelled false l.name ≡ is_spelled l.begun (drop l.octet-index l.name)
