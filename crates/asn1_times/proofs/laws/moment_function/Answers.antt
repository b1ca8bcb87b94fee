use Rattle.asn1_times.specs.ReaderLaws.{moment_is}
use Rattle.asn1_times.proofs.laws.moment_function.Goals as goal

pub returns : goal.returns
returns c = moment_is
