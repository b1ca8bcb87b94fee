use Rattle.cert_judge.proofs.Examples.{authority_is_fit}
use Rattle.laws_judge.proofs.reasons.example_of_an_issuer.Goals as goal

pub returns : goal.returns
returns c = authority_is_fit.issues
