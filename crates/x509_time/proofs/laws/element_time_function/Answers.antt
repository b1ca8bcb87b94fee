use Rattle.x509_time.proofs.TimeLaws.{time_is}
use Rattle.x509_time.proofs.laws.element_time_function.Goals as goal

pub returns : goal.returns
returns c = time_is
