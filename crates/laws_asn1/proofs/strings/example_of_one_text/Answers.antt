use Rattle.std.proofs.Common.{[], ◌∷◌, refl}
use Rattle.laws_asn1.proofs.strings.example_of_one_text.Goals as goal

pub returns : goal.returns
unfolding lib.Utf8.encode
returns c = ((0x41 ∷ [], (refl, refl)), refl)
