use Rattle.std.proofs.Common.{◌≡◌, ◌++◌, drop}
use Rattle.certpath_pem.specs.Writing.{wrapped_from, wrapped}
use Rattle.certpath_pem.proofs.write.push_wrapped.Given as goal

abbrev pub invariant-loop-octet : goal.invariant-loop-octet
invariant-loop-octet l = l.text.items ++ wrapped_from l.room (drop l.octet-index l.octets) ≡ l.fn.text.items ++ wrapped l.octets
