use Rattle.std.proofs.Common.{◌≡◌, take}
use Rattle.cert_graph.specs.Adequate.{changed}
use Rattle.cert_graph.proofs.changes.make.Given as goal

abbrev pub invariant-loop-change : goal.invariant-loop-change
invariant-loop-change l = l.row ≡ changed l.fn.row (take l.change-index l.changes)
