-- Paths are carried along.
use Rattle.cert_graph.proofs.NodeLaws.{paths_carried, carried_well}
use Rattle.cert_graph.proofs.laws.law_carried_paths.Goals as goal

pub returns : goal.returns
returns c = λ f nodes other k target. (λ ps a v. paths_carried f nodes other k target ps a v, carried_well f nodes other k target)
