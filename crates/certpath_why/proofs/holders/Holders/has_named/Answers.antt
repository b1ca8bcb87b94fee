use Rattle.certpath_why.proofs.Holding.{named_there}
use Rattle.certpath_why.proofs.holders.Holders.has_named.Goals as goal

pub returns : goal.returns
returns c =
    let there = named_there c.args.self.now c.args.number c.args.name.now c.index-holder.result.now c.requires c.index-holder.ensures in
    let some = rw c.deref.ensures.value at c.has_some-some.ensures in (
      λ t. let b = c.are_both.ensures.0 t in let s = some.0 b.1 in (s.0, (there s.0).0 (c.is_same-same.ensures.0 b.0, s.1)),
      λ h. let x = (there h.0).1 h.1 in c.are_both.ensures.1 (c.is_same-same.ensures.1 x.0, some.1 (h.0, x.1)),
    )
