use Rattle.std.proofs.Common.{◌≡◌, map, take}
use Rattle.certpath_why.specs.Named.{id_place}
use Rattle.certpath_why.proofs.named.id_places.Given as goal

abbrev pub invariant-loop-place : goal.invariant-loop-place
invariant-loop-place l = l.found.items ≡ map (id_place l.items) (take l.place-index l.places)
