use Rattle.asn1_times.specs.UtcLaws.{utc_differ}
use Rattle.asn1_times.proofs.laws.utc_octets_differ.Goals as goal

pub returns : goal.returns
returns c = utc_differ
