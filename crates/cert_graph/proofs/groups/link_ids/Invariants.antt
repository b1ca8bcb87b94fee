use Rattle.cert_graph.specs.Links.{Adds}
use Rattle.cert_graph.proofs.Adding.{UpTo}
use Rattle.cert_graph.proofs.Placing.{InBucket, Nothing}
use Rattle.cert_graph.proofs.groups.link_ids.Given as goal

abbrev pub invariant-loop-bucket : goal.invariant-loop-bucket
invariant-loop-bucket l = Adds l.items l.initial.groups.items l.groups.items (UpTo (InBucket l.items) l.bucket-items l.bucket-index) Nothing
