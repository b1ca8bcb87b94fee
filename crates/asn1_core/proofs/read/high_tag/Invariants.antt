use Rattle.std.proofs.Common.{◌≡◌, length}
use Rattle.asn1_core.specs.Reading.{high_tag_after}
use Rattle.asn1_core.proofs.read.high_tag.Given as goal

-- the number so far and the octets that are left read as all of them
abbrev pub invariant-loop-octet : goal.invariant-loop-octet
invariant-loop-octet l = high_tag_after 0 l.octets ≡ high_tag_after l.tag l.rest

abbrev pub decreases-loop-octet : goal.decreases-loop-octet
decreases-loop-octet l = length l.rest
