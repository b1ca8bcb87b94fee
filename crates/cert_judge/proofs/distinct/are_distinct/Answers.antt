use Rattle.cert_judge.proofs.Sets.{count_decides}
use Rattle.cert_judge.proofs.distinct.are_distinct.Goals as goal

pub returns : goal.returns
returns c = rw c.len-count.ensures.len (count_decides c.args.extensions.now c.in_ok-identifiers.identifiers c.in_ok-identifiers.ensures)
