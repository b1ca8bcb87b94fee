use Rattle.x509_names.proofs.Items.{algorithm_is, key_is, empty_name_is, stopped_name_is, name_is, rsa_is}
use Rattle.x509_names.proofs.laws.worked_items.Goals as goal

pub returns-clause-algorithm : goal.returns-clause-algorithm
returns-clause-algorithm c = algorithm_is

pub returns-clause-key : goal.returns-clause-key
returns-clause-key c = key_is

pub returns-clause-empty_name : goal.returns-clause-empty_name
returns-clause-empty_name c = empty_name_is

pub returns-clause-stopped_name : goal.returns-clause-stopped_name
returns-clause-stopped_name c = stopped_name_is

pub returns-clause-name : goal.returns-clause-name
returns-clause-name c = name_is

pub returns-clause-rsa_key : goal.returns-clause-rsa_key
returns-clause-rsa_key c = rsa_is
