use Rattle.laws_asn1.proofs.OfValues.{general_means}
use Rattle.laws_asn1.proofs.values.example_of_one_generalized_time.Goals as goal

pub returns : goal.returns
returns c = general_means
