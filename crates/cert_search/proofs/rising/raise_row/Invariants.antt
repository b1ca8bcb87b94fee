use Rattle.std.proofs.Common.{take}
use Rattle.cert_graph.specs.Nodes.{graph_of}
use Rattle.cert_search.proofs.Handing.{SoRaised}
use Rattle.cert_search.proofs.rising.raise_row.Given as goal

abbrev pub invariant-loop-v : goal.invariant-loop-v
invariant-loop-v l = SoRaised (graph_of l.nodes) l.offers l.fn.row l.row (take l.v-index l.risen) l.changes.items
