use Rattle.laws_asn1.proofs.OfOptional.{none, none_ber, some}
use Rattle.laws_asn1.proofs.optional.example_of_no_tag.Goals as goal

pub returns-clause-der : goal.returns-clause-der
returns-clause-der c = (some, none)

pub returns-clause-ber : goal.returns-clause-ber
returns-clause-ber c = (some, none_ber)
