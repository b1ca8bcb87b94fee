use Rattle.std.proofs.Common.{◌≡◌, drop}
use Rattle.asn1_oid.specs.Reading.{is_small_after}
use Rattle.asn1_oid.proofs.content.small.Given as goal

-- what was read so far leaves the same question for the octets that are left
abbrev pub invariant-loop-octet : goal.invariant-loop-octet
invariant-loop-octet l = is_small_after l.number (drop l.octet-index l.octets) ≡ is_small_after 0 l.octets
