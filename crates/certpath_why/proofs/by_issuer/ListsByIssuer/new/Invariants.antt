use Rattle.certpath_why.specs.ByIssuer.{AreByIssuer}
use Rattle.certpath_why.proofs.by_issuer.ListsByIssuer.new.Given as goal

abbrev pub invariant-loop-place : goal.invariant-loop-place
invariant-loop-place l = AreByIssuer l.found.items.now l.policy.moment l.lists
