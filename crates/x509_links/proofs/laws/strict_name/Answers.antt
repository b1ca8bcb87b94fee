use Rattle.x509_links.proofs.Strict.{name_is}
use Rattle.x509_links.proofs.laws.strict_name.Goals as goal

pub returns : goal.returns
returns c = λ n rest range small. name_is n rest range small
