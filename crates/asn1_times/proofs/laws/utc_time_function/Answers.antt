use Rattle.asn1_times.specs.ReaderLaws.{utc_time_is}
use Rattle.asn1_times.proofs.laws.utc_time_function.Goals as goal

pub returns : goal.returns
returns c = utc_time_is
