use Rattle.std.proofs.Common.{refl}
use Rattle.laws_asn1.proofs.OfValues.{utc_fields, utc_means}
use Rattle.laws_asn1.proofs.values.example_of_one_utc_time.Goals as goal

pub returns : goal.returns
returns c = (utc_means, utc_fields, refl)
