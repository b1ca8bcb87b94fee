use Rattle.cert_judge.proofs.PathLimits.{limit_is}
use Rattle.cert_judge.proofs.laws.limit_is_path_length.Goals as goal

pub returns : goal.returns
returns c = limit_is
