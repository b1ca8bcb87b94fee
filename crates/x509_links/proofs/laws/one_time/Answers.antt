use Rattle.x509_links.proofs.StrictTimes.{one_time_is}
use Rattle.x509_links.proofs.laws.one_time.Goals as goal

pub returns : goal.returns
returns c = λ t moment range same. one_time_is t moment range same
