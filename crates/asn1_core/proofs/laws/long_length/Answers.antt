use Rattle.asn1_core.proofs.StrictLaws.{long_length_lem}
use Rattle.asn1_core.proofs.laws.long_length.Goals as goal

pub returns : goal.returns
returns c = long_length_lem
