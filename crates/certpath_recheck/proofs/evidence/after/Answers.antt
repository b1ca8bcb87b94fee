use Rattle.certpath_recheck.proofs.EvidenceFacts.{left_after, none_after}
use Rattle.certpath_recheck.proofs.evidence.after.Goals as goal

pub returns-clause-found : goal.returns-clause-found
returns-clause-found c = left_after (λ r. r.now) c.args.text.now c.args.front.now c.strip_prefix.result c.strip_prefix.ensures.cases

pub returns-clause-none : goal.returns-clause-none
returns-clause-none c = none_after (λ r. r.now) c.args.text.now c.args.front.now c.strip_prefix.result c.strip_prefix.ensures.cases
