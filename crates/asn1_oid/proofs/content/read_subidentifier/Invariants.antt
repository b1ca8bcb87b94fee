use Rattle.std.proofs.Common.{◌≡◌, true, length}
use Rattle.asn1_oid.specs.Reading.{is_small_after, numbers_after}
use Rattle.asn1_oid.proofs.content.read_subidentifier.Given as goal

-- the number so far and the octets that are left stand for all octets
abbrev pub invariant-loop-octet : goal.invariant-loop-octet
invariant-loop-octet l =
    (is_small_after l.number l.rest ≡ true) × (numbers_after 0 l.fn.octets ≡ numbers_after l.number l.rest)

abbrev pub decreases-loop-octet : goal.decreases-loop-octet
decreases-loop-octet l = length l.rest
