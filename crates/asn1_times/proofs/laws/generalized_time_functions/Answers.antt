use Rattle.asn1_times.specs.ReaderLaws.{generalized_time_is, der_check_is, der_time_is}
use Rattle.asn1_times.proofs.laws.generalized_time_functions.Goals as goal

pub returns : goal.returns
returns c = record { ber = generalized_time_is; allowed = der_check_is; der = der_time_is }
