use Rattle.std.proofs.Common.{[], ◌∷◌, ◌++◌}
use Rattle.cert_graph.specs.declared.changes.Change.{Change}
use Rattle.certpath_evidence.specs.Evidence.{change_line}
use Rattle.certpath_evidence.proofs.Written.{piece, pieces}
use Rattle.certpath_evidence.proofs.writing.write_changes.Goals as goal

pub loop-change-preserved : goal.loop-change-preserved
loop-change-preserved c = piece (λ (x : Change). change_line x ++ 10 ∷ []) c.args.changes.now c.loop-change.change-index _ _ _ _ c.loop-change-test.true c.loop-change.invariant c.in_ok-write_change.ensures

pub returns : goal.returns
returns c = pieces (λ (x : Change). change_line x ++ 10 ∷ []) c.args.changes.now c.loop-change.change-index _ _ c.loop-change-test.false c.loop-change.invariant
