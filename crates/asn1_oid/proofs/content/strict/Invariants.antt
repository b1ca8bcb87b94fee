use Rattle.std.proofs.Common.{◌≡◌, false, drop}
use Rattle.asn1_oid.specs.Reading.{is_strict_after}
use Rattle.asn1_oid.proofs.content.strict.Given as goal

-- what was read so far leaves the same question for the octets that are left
abbrev pub invariant-loop-octet : goal.invariant-loop-octet
invariant-loop-octet l = is_strict_after l.within (drop l.octet-index l.octets) ≡ is_strict_after false l.octets
