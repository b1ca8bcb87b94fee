use Rattle.std.proofs.Common.{◌≡◌, length}
use Rattle.certpath_typed.specs.Told.{stand_in}
use Rattle.certpath_typed.proofs.identifier.place_of.Given as goal

-- what is left decides whether they are there
abbrev pub invariant-loop-rest : goal.invariant-loop-rest
invariant-loop-rest l = stand_in l.rest l.octets ≡ stand_in l.item l.octets

abbrev pub decreases-loop-rest : goal.decreases-loop-rest
decreases-loop-rest l = length l.rest
