use Rattle.cert_judge.proofs.Examples.{plain_extension, critical_extension, unknown_extension, processed_extension, twice, default_is_written}
use Rattle.cert_judge.proofs.laws.examples_of_extensions.Goals as goal

pub returns-clause-plain : goal.returns-clause-plain
returns-clause-plain c = plain_extension

pub returns-clause-critical : goal.returns-clause-critical
returns-clause-critical c = critical_extension

pub returns-clause-unknown : goal.returns-clause-unknown
returns-clause-unknown c = unknown_extension

pub returns-clause-processed : goal.returns-clause-processed
returns-clause-processed c = processed_extension

pub returns-clause-twice : goal.returns-clause-twice
returns-clause-twice c = twice

pub returns-clause-default : goal.returns-clause-default
returns-clause-default c = default_is_written
