use Rattle.cert_vouchers.specs.Vouching.{ArePlaced}
use Rattle.cert_vouchers.proofs.lookup.places_of.Given as goal

abbrev pub invariant-loop-number : goal.invariant-loop-number
invariant-loop-number g l = ArePlaced l.keys l.number l.places
