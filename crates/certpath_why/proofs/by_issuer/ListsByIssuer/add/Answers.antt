use Rattle.certpath_why.proofs.Issued.{held_more}
use Rattle.certpath_why.proofs.by_issuer.ListsByIssuer.add.Goals as goal

pub new-requires-clause-ascends : goal.new-requires-clause-ascends
new-requires-clause-ascends c = c.lists-places.ensures.ascends

pub new-requires-clause-complete : goal.new-requires-clause-complete
new-requires-clause-complete c = λ p h. (c.lists-places.ensures.exact p).1 h

pub returns : goal.returns
returns c =
    held_more c.args.found.now.items.now c.args.policy.now.moment c.args.self.now.by_name c.insert.new.self c.args.name c.in_ok-lists.lists c.requires.before c.in_ok-lists.ensures (λ q. c.in_ok-insert.ensures.updates.0 q)
