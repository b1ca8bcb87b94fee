use Rattle.cert_vouchers.proofs.LineFacts.{one_bad, well_there}
use Rattle.cert_vouchers.proofs.laws.one_first_bad.Goals as goal

pub returns-clause-once : goal.returns-clause-once
returns-clause-once c = one_bad

pub returns-clause-none : goal.returns-clause-none
returns-clause-none c = λ lines n well first. first.bad (well_there lines first.before first.after first.line well first.lines_are)
