use Rattle.std.proofs.Common.{ℕ, ◌-◌, ◌*◌, ◌<◌, ◌^◌, ◌∷◌, length, sym, ap, ◌∙◌, arith}
use Rattle.std.proofs.lemmas.Bool.{eqb-false, and_from, lt-ltb}
use Rattle.asn1_oid.specs.Reading.{components_in, numbers_after, split_first}
use Rattle.asn1_oid.proofs.ReadWritten.{all_octets}
use Rattle.asn1_oid.proofs.SpelledComponents.{all_test}
use Rattle.asn1_oid.proofs.Steps.{no_number}
use Rattle.asn1_oid.proofs.components.read_components.Goals as goal

-- octets that passed the tests have a first number
pub returns-in_err-joined : goal.returns-in_err-joined
returns-in_err-joined c =
    let none = no_number 0 c.args.octets.now (sym c.small.ensures ∙ c.if-not-small.false) c.in_err-joined.ensures in
    let some = eqb-false (length c.args.octets.now) 0 (sym c.if-is_empty.ensures) in
    absurd (omega (arith, ap length none.1))

pub returns : goal.returns
returns c =
    let octets = c.args.octets.now in
    let bytes = all_test octets (all_octets octets c.type_inv.octets) in
    let small = sym c.small.ensures ∙ c.if-not-small.false in
    let empty = eqb-false (length octets) 0 (sym c.if-is_empty.ensures) in
    let some : 0 < length octets = omega arith in
    let numbers = c.in_ok-joined.ensures.numbers in
    let components = ap split_first numbers in
    let counted : length (components_in octets) < 2 ^ 64 = omega (arith, ap length numbers, ap length components, c.count_ends.ensures) in (
      and_from _ _ bytes (and_from _ _ (and_from _ _ (lt-ltb 0 (length octets) some) small) (lt-ltb (length (components_in octets)) (2 ^ 64) counted)),
      ap (λ (first : ℕ). first ∷ (c.in_ok-joined.joined - 40 * first) ∷ numbers_after 0 c.in_ok-joined.rest.now) c.root-first.ensures ∙ sym components,
    )
