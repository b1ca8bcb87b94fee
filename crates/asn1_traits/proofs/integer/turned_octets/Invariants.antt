use Rattle.std.proofs.Common.{◌≡◌, take}
use Rattle.asn1_traits.specs.Integers.{turned}
use Rattle.asn1_traits.proofs.integer.turned_octets.Given as goal

abbrev pub invariant-loop-octet : goal.invariant-loop-octet
invariant-loop-octet l = l.out.items ≡ turned (take l.octet-index l.octets)
