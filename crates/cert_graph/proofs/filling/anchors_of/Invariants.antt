use Rattle.std.proofs.Common.{map}
use Rattle.cert_graph.specs.Lists.{AreFilled}
use Rattle.cert_graph.specs.Entries.{AnchorIn}
use Rattle.cert_graph.proofs.filling.anchors_of.Given as goal

abbrev pub invariant-loop-position : goal.invariant-loop-position
invariant-loop-position l = AreFilled (AnchorIn l.anchors) l.groups l.position (map (λ x. x.items) l.lists.items)
