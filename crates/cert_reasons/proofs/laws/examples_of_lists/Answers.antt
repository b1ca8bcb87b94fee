use Rattle.cert_reasons.proofs.Worked.{unvouched, past, used_by_one, keyless}
use Rattle.cert_reasons.proofs.laws.examples_of_lists.Goals as goal

pub returns-clause-unvouched : goal.returns-clause-unvouched
returns-clause-unvouched c = unvouched

pub returns-clause-past : goal.returns-clause-past
returns-clause-past c = past

pub returns-clause-used : goal.returns-clause-used
returns-clause-used c = used_by_one

pub returns-clause-keyless : goal.returns-clause-keyless
returns-clause-keyless c = keyless
