use Rattle.certpath_c.proofs.DemandLaws.{same_demand}
use Rattle.certpath_c.proofs.laws.same_demand.Goals as goal

pub returns : goal.returns
returns c = same_demand
