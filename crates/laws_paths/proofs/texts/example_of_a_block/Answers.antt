use Rattle.std.proofs.Common.{refl}
use Rattle.laws_paths.proofs.OfTexts.{bytes, some}
use Rattle.laws_paths.proofs.texts.example_of_a_block.Goals as goal

pub returns : goal.returns
returns c = (refl, bytes, some)
