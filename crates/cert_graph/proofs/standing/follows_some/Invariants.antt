use Rattle.std.proofs.Common.{map, take}
use Rattle.cert_graph.specs.Changes.{touched}
use Rattle.cert_graph.specs.Groups.{FollowsAt}
use Rattle.cert_graph.proofs.standing.follows_some.Given as goal

abbrev pub invariant-loop-change : goal.invariant-loop-change
invariant-loop-change l = FollowsAt l.nodes l.before l.row (touched (map (λ p. p.items) l.places) (take l.change-index l.changes))
