use Rattle.laws_x509.proofs.NameSteps.{attribute_found, attribute_only, name_silent}
use Rattle.laws_x509.proofs.refusals.refused_names.Goals as goal

pub returns-clause-found : goal.returns-clause-found
returns-clause-found c = attribute_found

pub returns-clause-only : goal.returns-clause-only
returns-clause-only c = attribute_only

pub returns-clause-name : goal.returns-clause-name
returns-clause-name c = name_silent
