use Rattle.std.proofs.Common.{length, []}
use Rattle.cert_graph.specs.Links.{Adds}
use Rattle.cert_graph.proofs.Adding.{UpTo}
use Rattle.cert_judge.proofs.NamedFacts.{IsBucketLink, IsBucketAnchor}
use Rattle.cert_judge.proofs.name_groups.groups_of.Given as goal

abbrev pub invariant-loop-bucket : goal.invariant-loop-bucket
invariant-loop-bucket g l =
    let V = (g.V.Vouch.vouches_for l.fn.vouch).Vouches in
    Adds (length l.items) [] l.groups.items (UpTo (IsBucketLink V l.demand_lists l.items l.all.items) l.bucket-items l.bucket-index)
    (UpTo (IsBucketAnchor V l.demand_lists l.items l.all.items (length l.anchors)) l.bucket-items l.bucket-index)
