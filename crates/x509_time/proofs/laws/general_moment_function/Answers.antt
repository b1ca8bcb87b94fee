use Rattle.x509_time.proofs.TimeLaws.{general_is}
use Rattle.x509_time.proofs.laws.general_moment_function.Goals as goal

pub returns : goal.returns
returns c = general_is
