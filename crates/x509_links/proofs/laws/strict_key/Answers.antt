use Rattle.x509_links.proofs.Strict.{key_is}
use Rattle.x509_links.proofs.laws.strict_key.Goals as goal

pub returns : goal.returns
returns c = λ k rest range small. key_is k rest range small
