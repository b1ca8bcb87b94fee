use Rattle.std.proofs.Common.{◌≡◌, ◌∷◌, take}
use Rattle.asn1_oid.specs.Identifier.{content_octets}
use Rattle.asn1_oid.proofs.spell.spell_all.Given as goal

abbrev pub invariant-loop-number : goal.invariant-loop-number
invariant-loop-number l = l.octets.items ≡ content_octets (l.first ∷ take l.number-index l.more)
