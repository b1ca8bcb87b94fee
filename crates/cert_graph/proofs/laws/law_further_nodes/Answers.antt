-- Further nodes carry each position to itself.
use Rattle.cert_graph.proofs.NodeLaws.{further_carries, further_paths, carried_well}
use Rattle.cert_graph.proofs.laws.law_further_nodes.Goals as goal

pub returns : goal.returns
returns c = λ nodes further h target. (λ ps a v. further_paths nodes further h target ps a v, carried_well (λ v. v) nodes further (further_carries nodes further h) target)
