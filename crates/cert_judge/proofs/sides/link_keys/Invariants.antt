use Rattle.cert_graph.specs.Links.{Adds}
use Rattle.cert_judge.specs.Copies.{IsLinkBy, IsAnchorBy}
use Rattle.cert_judge.proofs.Listed.{lists_of}
use Rattle.cert_judge.proofs.Siding.{ByKeys}
use Rattle.cert_judge.proofs.sides.link_keys.Given as goal

abbrev pub invariant-loop-number : goal.invariant-loop-number
invariant-loop-number l =
    Adds l.items l.initial.groups.items l.groups.items (IsLinkBy (ByKeys (lists_of l.rows) (lists_of l.copies) (lists_of l.holders) l.number) l.all l.items)
    (IsAnchorBy (ByKeys (lists_of l.rows) (lists_of l.copies) (lists_of l.holders) l.number) l.items l.anchors)
