use Rattle.std.proofs.Common.{◌≡◌, map, take}
use Rattle.certpath_why.specs.Signers.{member_place}
use Rattle.certpath_why.proofs.signers.member_places.Given as goal

abbrev pub invariant-loop-item : goal.invariant-loop-item
invariant-loop-item l = l.places.items ≡ map member_place (take l.item-index l.items)
