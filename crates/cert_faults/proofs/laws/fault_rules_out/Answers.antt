use Rattle.cert_faults.proofs.Faults.{certificate_refused, list_refused}
use Rattle.cert_faults.proofs.laws.fault_rules_out.Goals as goal

pub returns : goal.returns
returns c = record { certificate = certificate_refused; list = list_refused }
