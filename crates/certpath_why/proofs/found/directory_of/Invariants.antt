use Rattle.std.proofs.Common.{◌≡◌, map, take}
use Rattle.certpath_why.specs.Found.{subject_place}
use Rattle.certpath_why.proofs.found.directory_of.Given as goal

abbrev pub invariant-loop-item : goal.invariant-loop-item
invariant-loop-item l = l.places.items ≡ map subject_place (take l.item-index l.items)
