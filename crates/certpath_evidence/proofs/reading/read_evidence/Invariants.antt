use Rattle.std.proofs.Common.{length}
use Rattle.certpath_evidence.specs.Evidence.{told_by}
use Rattle.certpath_evidence.proofs.SoFar.{SoFar}
use Rattle.certpath_evidence.proofs.reading.read_evidence.Given as goal

abbrev pub invariant-loop-rest : goal.invariant-loop-rest
invariant-loop-rest l = SoFar l.text l.rest (told_by l.inventory) l.number

abbrev pub decreases-loop-rest : goal.decreases-loop-rest
decreases-loop-rest l = length l.rest
