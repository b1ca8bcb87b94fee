use Rattle.laws_asn1.proofs.OfOptional.{begins, begins_ber}
use Rattle.laws_asn1.proofs.optional.example_of_a_wanted_tag.Goals as goal

pub returns-clause-der : goal.returns-clause-der
returns-clause-der c = begins

pub returns-clause-ber : goal.returns-clause-ber
returns-clause-ber c = begins_ber
