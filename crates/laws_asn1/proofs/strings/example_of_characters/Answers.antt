use Rattle.std.proofs.Common.{refl}
use Rattle.laws_asn1.proofs.strings.example_of_characters.Goals as goal

pub returns : goal.returns
returns c = refl
