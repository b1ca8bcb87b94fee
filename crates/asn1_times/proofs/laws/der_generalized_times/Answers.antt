use Rattle.asn1_times.proofs.DerForms.{der_generalized}
use Rattle.asn1_times.proofs.laws.der_generalized_times.Goals as goal

pub returns : goal.returns
returns c = der_generalized
