use Rattle.std.proofs.Common.{◌≡◌, map, take}
use Rattle.certpath_why.specs.Signers.{issued_place}
use Rattle.certpath_why.proofs.signers.issued_places.Given as goal

abbrev pub invariant-loop-item : goal.invariant-loop-item
invariant-loop-item l = l.places.items ≡ map issued_place (take l.item-index l.items)
