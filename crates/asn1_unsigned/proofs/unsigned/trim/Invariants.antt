use Rattle.std.proofs.Common.{◌≡◌, length}
use Rattle.std.specs.Int.Digits.{number_from_digits}
use Rattle.asn1_unsigned.proofs.unsigned.trim.Given as goal

-- the octets that are left make the number of all of them
abbrev pub invariant-loop-octet : goal.invariant-loop-octet
invariant-loop-octet l = number_from_digits 256 l.rest ≡ number_from_digits 256 l.octets

abbrev pub decreases-loop-octet : goal.decreases-loop-octet
decreases-loop-octet l = length l.rest
