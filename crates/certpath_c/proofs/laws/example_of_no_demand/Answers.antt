use Rattle.std.proofs.Common.{refl}
use Rattle.certpath_c.proofs.laws.example_of_no_demand.Goals as goal

pub returns-clause-wanted : goal.returns-clause-wanted
returns-clause-wanted c = (record { purpose = refl; host = refl }, record { purpose = refl; host = refl })

pub returns-clause-target : goal.returns-clause-target
returns-clause-target c = (refl, refl, record { purpose = refl; host = refl })

pub returns-clause-all : goal.returns-clause-all
returns-clause-all c = (refl, record { purpose = refl; host = refl })
