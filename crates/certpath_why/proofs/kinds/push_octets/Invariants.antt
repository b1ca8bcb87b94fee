use Rattle.std.proofs.Common.{◌≡◌, ◌++◌, take}
use Rattle.certpath_why.proofs.kinds.push_octets.Given as goal

abbrev pub invariant-loop-octet : goal.invariant-loop-octet
invariant-loop-octet l = l.kind.items ≡ l.initial.kind.items ++ take l.octet-index l.octets
