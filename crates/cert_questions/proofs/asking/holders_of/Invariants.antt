use Rattle.std.proofs.Common.{◌≡◌, ◌++◌, take}
use Rattle.cert_questions.specs.Places.{places_of}
use Rattle.cert_questions.proofs.asking.holders_of.Given as goal

abbrev pub invariant-loop-item : goal.invariant-loop-item
invariant-loop-item l = l.holders.items ≡ places_of (take l.item-index l.items)

abbrev pub invariant-loop-anchor : goal.invariant-loop-anchor
invariant-loop-anchor l = l.holders.items ≡ places_of l.fn.items ++ places_of (take l.anchor-index l.anchors)
