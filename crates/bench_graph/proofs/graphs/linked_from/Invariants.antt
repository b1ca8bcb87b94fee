use Rattle.std.proofs.Common.{◌≡◌, length}
use Rattle.bench_graph.proofs.graphs.linked_from.Given as goal

abbrev pub invariant-loop-position : goal.invariant-loop-position
invariant-loop-position l = length l.entries.items ≡ l.position
