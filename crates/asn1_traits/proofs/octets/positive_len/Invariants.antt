use Rattle.std.proofs.Common.{◌≡◌, ◌+◌, length}
use Rattle.std.specs.Int.Digits.{digits_of}
use Rattle.asn1_traits.specs.Integers.{with_sign_bit}
use Rattle.asn1_traits.proofs.octets.positive_len.Given as goal

-- what is counted and what is left of the number are its octets
abbrev pub invariant-loop-left : goal.invariant-loop-left
invariant-loop-left l = l.len + length (with_sign_bit (digits_of 256 l.left)) ≡ length (with_sign_bit (digits_of 256 l.number)) + 1

abbrev pub decreases-loop-left : goal.decreases-loop-left
decreases-loop-left l = l.left
