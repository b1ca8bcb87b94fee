use Rattle.asn1_times.specs.GeneralizedLaws.{generalized_once}
use Rattle.asn1_times.proofs.laws.one_generalized_time.Goals as goal

pub returns : goal.returns
returns c = generalized_once
