use Rattle.std.proofs.Common.{length}
use Rattle.host_names.specs.Asked.{host_view}
use Rattle.cert_serving.proofs.Written.{IsRead}
use Rattle.cert_serving.proofs.serving.are_names.Given as goal

abbrev pub invariant-loop-rest : goal.invariant-loop-rest
invariant-loop-rest l = IsRead (host_view l.fn.host) l.fn.content l.rest l.found

abbrev pub decreases-loop-rest : goal.decreases-loop-rest
decreases-loop-rest l = length l.rest
