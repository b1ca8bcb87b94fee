use Rattle.asn1_core.proofs.StrictLaws.{header_is_lenient, strict_octets_lem}
use Rattle.asn1_core.proofs.laws.strict_is_lenient.Goals as goal

pub returns-clause-spells : goal.returns-clause-spells
returns-clause-spells c = header_is_lenient

pub returns-clause-octets : goal.returns-clause-octets
returns-clause-octets c = strict_octets_lem
