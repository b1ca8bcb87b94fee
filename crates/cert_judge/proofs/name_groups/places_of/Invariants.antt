use Rattle.std.proofs.Common.{◌≡◌, ◌++◌, map, take}
use Rattle.cert_judge.specs.JudgedItems.{as_issued, as_member, as_anchor}
use Rattle.cert_judge.proofs.name_groups.places_of.Given as goal

abbrev pub invariant-loop-item : goal.invariant-loop-item
invariant-loop-item l = l.places.items ≡ map as_issued (take l.item-index l.items)

abbrev pub invariant-loop-item-2 : goal.invariant-loop-item-2
invariant-loop-item-2 l = l.places.items ≡ map as_issued l.items ++ map as_member (take l.item-index l.items)

abbrev pub invariant-loop-anchor : goal.invariant-loop-anchor
invariant-loop-anchor l = l.places.items ≡ (map as_issued l.fn.items ++ map as_member l.fn.items) ++ map as_anchor (take l.anchor-index l.anchors)
