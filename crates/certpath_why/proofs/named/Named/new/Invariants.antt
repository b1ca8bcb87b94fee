use Rattle.certpath_why.specs.Named.{AreNamed}
use Rattle.certpath_why.proofs.named.Named.new.Given as goal

abbrev pub invariant-loop-place : goal.invariant-loop-place
invariant-loop-place l = AreNamed l.found l.named
