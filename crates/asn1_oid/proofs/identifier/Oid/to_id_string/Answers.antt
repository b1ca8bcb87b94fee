use Rattle.std.proofs.Common.{◌∙◌}
use Rattle.asn1_oid.proofs.TextOf.{text_spelled, text_other}
use Rattle.asn1_oid.proofs.identifier.Oid.to_id_string.Goals as goal

pub returns-clause-components : goal.returns-clause-components
returns-clause-components c = λ components s. c.in_ok-text.ensures.ok ∙ text_spelled components _ s

pub returns-clause-octets : goal.returns-clause-octets
returns-clause-octets c = λ none. c.in_ok-text.ensures.ok ∙ text_other _ none
