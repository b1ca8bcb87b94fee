use Rattle.certpath_why.proofs.Spreading.{spreads_known, spreads_new}
use Rattle.certpath_why.proofs.reached.visit.Goals as goal

pub returns-then-is_marked : goal.returns-then-is_marked
returns-then-is_marked c = spreads_known c.args.place c.args.marks.now.items c.args.queue.now.items (rw c.deref.ensures.value at (c.is_marked.ensures.0 c.if-is_marked.true))

pub returns : goal.returns
returns c = spreads_new c.args.place c.args.marks.now.items c.put_mark.new.marks.items c.args.queue.now.items _ c.put_mark.ensures.count c.put_mark.ensures.exact c.in_ok-push.ensures.items
