use Rattle.std.proofs.Common.{ℕ, ◌<◌, get_or}
use Rattle.cert_graph.specs.Nodes.{graph_of}
use Rattle.cert_graph.specs.Least.{IsOpen}
use Rattle.cert_graph.proofs.least.least_open.Given as goal

abbrev pub invariant-loop-w : goal.invariant-loop-w
invariant-loop-w l = (k : ℕ) → k < l.w-index → IsOpen (graph_of l.nodes) l.row l.count (get_or l.w-items k 0) → ⊥
