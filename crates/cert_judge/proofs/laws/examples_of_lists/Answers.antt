use Rattle.cert_judge.proofs.ExampleLists.{revoked_by_list, unvouched_list, no_list_demanded, another_revoked}
use Rattle.cert_judge.proofs.laws.examples_of_lists.Goals as goal

pub returns-clause-revoked : goal.returns-clause-revoked
returns-clause-revoked c = revoked_by_list

pub returns-clause-unvouched : goal.returns-clause-unvouched
returns-clause-unvouched c = unvouched_list

pub returns-clause-none : goal.returns-clause-none
returns-clause-none c = no_list_demanded

pub returns-clause-another : goal.returns-clause-another
returns-clause-another c = another_revoked
