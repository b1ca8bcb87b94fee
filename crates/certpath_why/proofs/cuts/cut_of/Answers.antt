use Rattle.certpath_why.proofs.cuts.cut_of.Goals as goal

pub returns : goal.returns
returns c = (c.in_ok-ranges.ranges.items, c.in_ok-ranges.ensures, rw c.deref.ensures.value at c.in_ok-cut.ensures)
