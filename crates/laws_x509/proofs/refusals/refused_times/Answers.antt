use Rattle.laws_x509.proofs.TimeSteps.{time_found, time_only, validity_found, validity_only, update_found, update_only}
use Rattle.laws_x509.proofs.refusals.refused_times.Goals as goal

pub returns-clause-found : goal.returns-clause-found
returns-clause-found c = time_found

pub returns-clause-only : goal.returns-clause-only
returns-clause-only c = time_only

pub returns-clause-validity_found : goal.returns-clause-validity_found
returns-clause-validity_found c = validity_found

pub returns-clause-validity_only : goal.returns-clause-validity_only
returns-clause-validity_only c = validity_only

pub returns-clause-update_found : goal.returns-clause-update_found
returns-clause-update_found c = update_found

pub returns-clause-update_only : goal.returns-clause-update_only
returns-clause-update_only c = update_only
