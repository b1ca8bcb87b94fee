-- The law on graphs, at the graph of nodes.
use Rattle.cert_graph.specs.Nodes.{graph_of}
use Rattle.cert_graph.proofs.NodeFacts.{fit_is_usable}
use Rattle.cert_graph.proofs.PathLaws.{first_names_none_twice}
use Rattle.cert_graph.proofs.laws.law_first_names_none_twice.Goals as goal

pub returns : goal.returns
returns c = λ nodes target ps a h. first_names_none_twice (graph_of nodes) (fit_is_usable nodes) target ps a h
