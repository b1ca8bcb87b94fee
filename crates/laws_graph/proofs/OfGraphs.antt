-- Nodes agree with themselves, and a map that leaves each position carries them.
use Rattle.std.proofs.Common.{refl}
use Rattle.cert_graph.specs.declared.nodes.Nodes.{Nodes}
use Rattle.cert_graph.specs.Graph.{Graph}
use Rattle.cert_graph.specs.Laws.{Agrees, Carries}
use Rattle.cert_graph.specs.Nodes.{graph_of}
use Rattle.laws_graph.specs.Worked.{stays}

agrees : (g : Graph) → Agrees g g
agrees g = record {
  items = refl;
  certificate = λ v. (λ is. is, λ is. is);
  usable = λ v. (λ is. is, λ is. is);
  fit = λ v. (λ is. is, λ is. is);
  self_issued = λ v. refl;
  limit = λ v fit. refl;
  edge = λ v w fit. (λ is. is, λ is. is);
  anchored = λ v a. (λ is. is, λ is. is);
}

pub nodes_agree : (nodes : Nodes) → Agrees (graph_of nodes) (graph_of nodes)
nodes_agree nodes = agrees (graph_of nodes)

carries : (g : Graph) → Carries stays g g
carries g = record {
  usable = λ v is. is;
  fit = λ v is. is;
  self_issued = λ v fit. refl;
  limit = λ v c fit takes. takes;
  edge = λ v w fit is. is;
  anchored = λ v a is. is;
}

pub nodes_carried : (nodes : Nodes) → Carries stays (graph_of nodes) (graph_of nodes)
nodes_carried nodes = carries (graph_of nodes)
