use Rattle.asn1_core.proofs.LenientLaws.{lenient_is_ber_lem, head_is_ber}
use Rattle.asn1_core.proofs.laws.lenient_is_ber.Goals as goal

pub returns-clause-spells : goal.returns-clause-spells
returns-clause-spells c = lenient_is_ber_lem

pub returns-clause-range : goal.returns-clause-range
returns-clause-range c = head_is_ber
