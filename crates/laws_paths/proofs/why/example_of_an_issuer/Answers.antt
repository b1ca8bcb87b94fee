use Rattle.laws_paths.proofs.OfWhy.{another}
use Rattle.laws_paths.proofs.why.example_of_an_issuer.Goals as goal

pub returns : goal.returns
returns c = another
