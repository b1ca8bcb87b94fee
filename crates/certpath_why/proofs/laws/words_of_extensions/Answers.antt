use Rattle.certpath_why.proofs.Told.{one_uses_text, one_hosts_text}
use Rattle.certpath_why.proofs.laws.words_of_extensions.Goals as goal

pub returns-clause-uses : goal.returns-clause-uses
returns-clause-uses c = λ es one other short s t. one_uses_text es one other short s t

pub returns-clause-hosts : goal.returns-clause-hosts
returns-clause-hosts c = λ es one other short s t. one_hosts_text es one other short s t
