use Rattle.std.proofs.Common.{◌≡◌, map, take}
use Rattle.certpath_why.specs.Found.{list_place}
use Rattle.certpath_why.proofs.found.directory_of_lists.Given as goal

abbrev pub invariant-loop-item : goal.invariant-loop-item
invariant-loop-item l = l.places.items ≡ map list_place (take l.item-index l.items)
