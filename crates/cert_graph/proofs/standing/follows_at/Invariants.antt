use Rattle.std.proofs.Common.{take}
use Rattle.cert_graph.specs.Groups.{FollowsAt}
use Rattle.cert_graph.proofs.standing.follows_at.Given as goal

abbrev pub invariant-loop-place : goal.invariant-loop-place
invariant-loop-place l = FollowsAt l.nodes l.before l.row (take l.place-index l.places)
