use Rattle.std.proofs.Common.{length}
use Rattle.certpath_evidence.proofs.PathFacts.{PathSoFar}
use Rattle.certpath_evidence.proofs.words.path_of.Given as goal

abbrev pub invariant-loop-word : goal.invariant-loop-word
invariant-loop-word l = PathSoFar l.words l.positions.items l.rest

abbrev pub decreases-loop-word : goal.decreases-loop-word
decreases-loop-word l = length l.rest
