use Rattle.std.proofs.Common.{◌≡◌, ◌^◌, ◌<◌, length}
use Rattle.std.specs.Int.Digits.{number_from_digits, number_from_digits_after}
use Rattle.asn1_traits.specs.Integers.{unsigned_octets}
use Rattle.asn1_values.proofs.whole.read_size.Given as goal

-- the octets that are left, after the number so far, make the number of all of them
abbrev pub invariant-loop-octet : goal.invariant-loop-octet
invariant-loop-octet l = record {
  small : l.number < 2 ^ 128;
  value : number_from_digits 256 (unsigned_octets l.negative l.octets) ≡ number_from_digits_after 256 l.number (unsigned_octets l.negative l.rest);
}

abbrev pub decreases-loop-octet : goal.decreases-loop-octet
decreases-loop-octet l = length l.rest
