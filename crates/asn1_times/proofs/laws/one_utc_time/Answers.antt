use Rattle.asn1_times.specs.UtcLaws.{utc_once}
use Rattle.asn1_times.proofs.laws.one_utc_time.Goals as goal

pub returns : goal.returns
returns c = utc_once
