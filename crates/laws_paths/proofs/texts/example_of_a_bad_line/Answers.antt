use Rattle.laws_paths.proofs.OfTexts.{bad}
use Rattle.laws_paths.proofs.texts.example_of_a_bad_line.Goals as goal

pub returns : goal.returns
returns c = bad
