use Rattle.cert_serving.proofs.Processing.{with_purpose, without_purpose, of_target, of_issuer, without_host, of_another}
use Rattle.cert_serving.proofs.laws.examples_of_processing.Goals as goal

pub returns : goal.returns
returns c = record { purpose = with_purpose; no_purpose = without_purpose; target = of_target; issuer = of_issuer; no_host = without_host; another = of_another }
