use Rattle.host_names.proofs.NoReason.{no_reason}
use Rattle.host_names.proofs.laws.refused_or_named.Goals as goal

pub returns : goal.returns
returns c = no_reason
