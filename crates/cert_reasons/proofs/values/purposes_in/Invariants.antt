use Rattle.std.proofs.Common.{length, map}
use Rattle.asn1_oid.specs.Identifier.{IsOidContent}
use Rattle.cert_model.specs.Octets.{identifier_octets}
use Rattle.cert_reasons.proofs.Reading.{IsRead}
use Rattle.cert_reasons.proofs.values.purposes_in.Given as goal

abbrev pub invariant-loop-rest : goal.invariant-loop-rest
invariant-loop-rest l = IsRead identifier_octets IsOidContent l.fn.content l.rest (map (λ p. p.identifier.now) l.purposes.items)

abbrev pub decreases-loop-rest : goal.decreases-loop-rest
decreases-loop-rest l = length l.rest
