-- Paths are carried along both ways.
use Rattle.std.proofs.Common.{ℕ, subst}
use Rattle.cert_graph.specs.LawsOfNodes.{LeadsAsWell}
use Rattle.cert_graph.proofs.NodeLaws.{carried_well}
use Rattle.cert_graph.proofs.laws.law_reordered_nodes.Goals as goal

pub returns : goal.returns
returns c = λ f back nodes other k j target e. (carried_well f nodes other k target, subst (λ (v : ℕ). LeadsAsWell other nodes (f target) v) e (carried_well back other nodes j (f target)))
