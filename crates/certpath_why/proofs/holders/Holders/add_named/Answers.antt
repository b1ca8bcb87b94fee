use Rattle.certpath_why.proofs.Holding.{named_more}
use Rattle.certpath_why.proofs.holders.Holders.add_named.Goals as goal

pub returns : goal.returns
returns c = named_more c.args.self.now c.args.number c.args.name.now c.index-holder.result.now c.args.found.now.items c.extend_from_slice.new.self.items c.requires c.index-holder.ensures (c.is_same.ensures.0 c.if-not-is_same.false) (rw c.deref.ensures.value at c.in_ok-extend_from_slice.ensures.items)
