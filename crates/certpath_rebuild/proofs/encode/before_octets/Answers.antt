use Rattle.certpath_rebuild.proofs.Ends.{finds_cut}
use Rattle.certpath_rebuild.proofs.encode.before_octets.Goals as goal

pub returns : goal.returns
returns c = finds_cut _ _ _ c.strip_suffix.ensures.cases
