use Rattle.std.proofs.Common.{◌≡◌, map, take}
use Rattle.cert_judge.specs.Copies.{octets_at}
use Rattle.cert_judge.proofs.copies.octets_of.Given as goal

abbrev pub invariant-loop-place : goal.invariant-loop-place
invariant-loop-place l = map (λ o. o.now) l.octets.items ≡ octets_at l.items (take l.place-index l.places)
