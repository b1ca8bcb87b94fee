use Rattle.std.proofs.Common.{◌≡◌, ◌++◌, take, drop}
use Rattle.cert_graph.specs.Adequate.{changed}
use Rattle.cert_graph.proofs.changes.changes_between.Given as goal

abbrev pub invariant-loop-position : goal.invariant-loop-position
invariant-loop-position l = changed l.before l.changes.items ≡ take l.position l.row ++ drop l.position l.before
