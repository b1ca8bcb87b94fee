use Rattle.std.proofs.Common.{◌≡◌, ◌+◌, ◌≤◌, ◌++◌, length, map}
use Rattle.std.specs.Int.Digits.{digits_of}
use Rattle.asn1_core.specs.Digits.{continued}
use Rattle.asn1_core.proofs.octets.HeaderOctets.put_tag.Given as goal

-- the digits of what is left, each with bit 8, before those that are written, are all of them
abbrev pub invariant-loop-left : goal.invariant-loop-left
invariant-loop-left l = record {
  room : length (digits_of 128 l.left) + length l.self ≤ 15;
  whole : continued (digits_of 128 l.tag) ++ l.fn.self ≡ map (λ d. 128 + d) (digits_of 128 l.left) ++ l.self;
}

abbrev pub decreases-loop-left : goal.decreases-loop-left
decreases-loop-left l = l.left
