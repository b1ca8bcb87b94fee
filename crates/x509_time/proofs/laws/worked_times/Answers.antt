use Rattle.x509_time.proofs.Items.{start_is, period_is}
use Rattle.x509_time.proofs.laws.worked_times.Goals as goal

pub returns-clause-time : goal.returns-clause-time
returns-clause-time c = start_is

pub returns-clause-validity : goal.returns-clause-validity
returns-clause-validity c = period_is
