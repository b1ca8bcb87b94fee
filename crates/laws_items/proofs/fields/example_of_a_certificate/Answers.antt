use Rattle.laws_items.proofs.OfFields.{certificate_below, certificate_in_range, certificate_short}
use Rattle.laws_items.proofs.fields.example_of_a_certificate.Goals as goal

pub returns : goal.returns
returns c = (certificate_in_range, certificate_below, certificate_short)
