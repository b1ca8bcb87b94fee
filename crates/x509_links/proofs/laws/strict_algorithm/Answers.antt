use Rattle.x509_links.proofs.Strict.{algorithm_is}
use Rattle.x509_links.proofs.laws.strict_algorithm.Goals as goal

pub returns : goal.returns
returns c = λ a rest range small. algorithm_is a rest range small
