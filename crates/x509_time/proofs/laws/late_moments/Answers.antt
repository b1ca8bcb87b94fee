use Rattle.x509_time.proofs.LateLaws.{late}
use Rattle.x509_time.proofs.laws.late_moments.Goals as goal

pub returns : goal.returns
returns c = late
