use Rattle.std.proofs.Common.{◌≡◌, ◌^◌, ◌<◌, length}
use Rattle.std.specs.Int.Digits.{number_from_digits, number_from_digits_after}
use Rattle.asn1_unsigned.proofs.unsigned.read_u64.Given as goal

-- the octets that are left, after the number so far, make the number of all of them
abbrev pub invariant-loop-octet : goal.invariant-loop-octet
invariant-loop-octet l = record {
  small : l.number < 2 ^ 64;
  value : number_from_digits 256 l.octets ≡ number_from_digits_after 256 l.number l.rest;
}

abbrev pub decreases-loop-octet : goal.decreases-loop-octet
decreases-loop-octet l = length l.rest
