use Rattle.cert_graph.specs.Nodes.{graph_of}
use Rattle.cert_graph.proofs.Climbing.{Climbed}
use Rattle.cert_graph.proofs.stairs.stairs_of.Given as goal

abbrev pub invariant-loop-w : goal.invariant-loop-w
invariant-loop-w l = Climbed (graph_of l.nodes) l.row l.w-items l.w-index l.stairs.items l.best
