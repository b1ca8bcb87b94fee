use Rattle.x509_links.proofs.StrictTimes.{time_is}
use Rattle.x509_links.proofs.laws.strict_time.Goals as goal

pub returns : goal.returns
returns c = λ t rest range. time_is t rest range
