use Rattle.certpath_c.proofs.DemandLaws.{no_demand, no_demand_of_all}
use Rattle.certpath_c.proofs.laws.no_demand.Goals as goal

pub returns-clause-target : goal.returns-clause-target
returns-clause-target c = no_demand

pub returns-clause-all : goal.returns-clause-all
returns-clause-all c = no_demand_of_all

pub returns-clause-path : goal.returns-clause-path
returns-clause-path c = λ s items anchors pairs text. (λ h. h, λ h. h)

pub returns-clause-why : goal.returns-clause-why
returns-clause-why c = λ s items anchors pairs text. (λ h. h, λ h. h)

pub returns-clause-paths : goal.returns-clause-paths
returns-clause-paths c = λ s items anchors pairs text. (λ h. h, λ h. h)
