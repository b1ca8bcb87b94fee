-- The text of octets, by what they spell.
use Rattle.std.proofs.Common.{◌≡◌, ℕ, true, false, List, ◌∙◌, ap}
use Rattle.std.proofs.lemmas.Bool.{cond-true, cond-false, false_from_ne_true}
use Rattle.asn1_oid.specs.Identifier.{Spells}
use Rattle.asn1_oid.specs.Reading.{is_readable, components_in}
use Rattle.asn1_oid.specs.Text.{dotted, spaced_hex, oid_text}
use Rattle.asn1_oid.proofs.SpelledComponents.{readable_spells, spelled_readable, spelled_components}

pub text_readable : (octets : List ℕ) → is_readable octets ≡ true → oid_text octets ≡ dotted (components_in octets)
unfolding oid_text
text_readable octets readable = cond-true (is_readable octets) _ _ readable

pub text_unreadable : (octets : List ℕ) → is_readable octets ≡ false → oid_text octets ≡ spaced_hex octets
unfolding oid_text
text_unreadable octets unreadable = cond-false (is_readable octets) _ _ unreadable

pub text_spelled : (components octets : List ℕ) → Spells components octets → oid_text octets ≡ dotted components
text_spelled components octets s =
    text_readable octets (spelled_readable components octets s) ∙ ap dotted (spelled_components components octets s)

pub text_other : (octets : List ℕ) → ((components : List ℕ) → Spells components octets → ⊥) → oid_text octets ≡ spaced_hex octets
text_other octets none = text_unreadable octets
    (false_from_ne_true (is_readable octets) (λ (readable : is_readable octets ≡ true). none (components_in octets) (readable_spells octets readable)))
