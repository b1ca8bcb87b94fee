use Rattle.std.proofs.Common.{[]}
use Rattle.certpath_why.proofs.cuts.Cut.of.Goals as goal

pub returns : goal.returns
returns c = c.in_ok-extend.ensures [] c.new-cut.ensures
