use Rattle.x509_ext_basic.proofs.Items.{constraints_are, none_are, number_is, reason_is}
use Rattle.x509_ext_basic.proofs.worked.worked_leaves.Goals as goal

pub returns-clause-constraints : goal.returns-clause-constraints
returns-clause-constraints c = constraints_are

pub returns-clause-none : goal.returns-clause-none
returns-clause-none c = none_are

pub returns-clause-number : goal.returns-clause-number
returns-clause-number c = number_is

pub returns-clause-reason : goal.returns-clause-reason
returns-clause-reason c = reason_is
