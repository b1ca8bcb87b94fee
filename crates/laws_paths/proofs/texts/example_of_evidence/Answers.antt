use Rattle.std.proofs.Common.{refl}
use Rattle.laws_paths.proofs.OfTexts.{fits, read}
use Rattle.laws_paths.proofs.texts.example_of_evidence.Goals as goal

pub returns-clause-same : goal.returns-clause-same
returns-clause-same c = (fits, refl)

pub returns-clause-read : goal.returns-clause-read
returns-clause-read c = read c.args.alloc
