-- The worked identifier is spelled, and the padded one isn't.
use Rattle.std.proofs.Common.{◌≡◌, ℕ, false, List, refl, arith, sym, ◌∙◌}
use Rattle.std.specs.Int.Digits.{AllBelowBase}
use Rattle.asn1_oid.specs.Identifier.{content_octets, subidentifiers_of, subidentifier_octets, Spells, CanBeSpelled}
use Rattle.asn1_oid.specs.Reading.{is_readable, is_small_after}
use Rattle.asn1_oid.proofs.SpelledComponents.{spelled_readable}
use Rattle.laws_asn1.specs.Worked.{components, identifier_octets, padded_octets}

spelled : identifier_octets ≡ content_octets (subidentifiers_of components)
unfolding subidentifier_octets
spelled = refl

can : CanBeSpelled components
can = record { are_components = (omega arith, λ lt. omega arith); small = (omega arith, (omega arith, tt)) }

pub spells : Spells components identifier_octets
spells = record { can = can; counted = omega arith; spelled = spelled }

pub octets : AllBelowBase 256 identifier_octets
octets = (omega arith, (omega arith, (omega arith, tt)))

unreadable : is_readable padded_octets ≡ false
unfolding is_small_after
unreadable = refl

pub unspelled : (others : List ℕ) → Spells others padded_octets → ⊥
unspelled others is = let readable = spelled_readable others padded_octets is in absurd (cc (sym unreadable ∙ readable))
