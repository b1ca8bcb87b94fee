use Rattle.std.proofs.Common.{refl}
use Rattle.cert_purpose.proofs.Worked.{without_allows, two_allow_none}
use Rattle.cert_purpose.proofs.laws.examples_of_purposes.Goals as goal

pub returns : goal.returns
returns c = record { octets = refl; no_extension = without_allows; two = two_allow_none }
