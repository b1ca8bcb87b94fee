use Rattle.certpath_why.proofs.Issued.{held_none}
use Rattle.certpath_why.proofs.by_issuer.ListsByIssuer.new.Goals as goal

pub add_at-requires-clause-before : goal.add_at-requires-clause-before
add_at-requires-clause-before c = held_none c.args.found.now.items.now c.args.policy.now.moment c.new.result c.new.ensures.empty
