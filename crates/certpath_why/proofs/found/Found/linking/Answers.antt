use Rattle.certpath_why.proofs.found.Found.linking.Goals as goal

pub by-requires : goal.by-requires
by-requires c = c.in-Some.ensures c.args.self.now.items.now c.args.policy.now.moment c.requires.listed

pub new-requires-clause-ascends : goal.new-requires-clause-ascends
new-requires-clause-ascends c = c.lists-places.ensures.ascends

pub new-requires-clause-complete : goal.new-requires-clause-complete
new-requires-clause-complete c = λ p h. (c.lists-places.ensures.exact p).1 h
