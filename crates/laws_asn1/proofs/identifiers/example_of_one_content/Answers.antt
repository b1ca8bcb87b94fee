use Rattle.std.proofs.Common.{refl}
use Rattle.laws_asn1.proofs.identifiers.example_of_one_content.Goals as goal

pub returns : goal.returns
returns c = refl
