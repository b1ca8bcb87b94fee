use Rattle.std.proofs.Common.{◌≡◌, ◌≢◌, ◌^◌, ◌≤◌, [], false, true, refl, sym, ◌∙◌, inl, inr, arith, rules}
use Rattle.std.specs.Int.Digits.{number_from_digits}
use Rattle.asn1_values.specs.Numbers.{first_bit}
use Rattle.asn1_values.proofs.Signs.{sign_is, spells_of, too_large}
use Rattle.std.proofs.lemmas.Bool.{eqb-true}
use Rattle.asn1_core.specs.declared.error.Error.TheVariants as errors
use Rattle.asn1_values.specs.ReaderLaws.{natural_is, natural_none, natural_below, unsigned_refused, unsigned_only, unsigned_large}
use Rattle.asn1_values.proofs.whole.read_unsigned.Goals as goal

pub returns-then-is_negative-clause-refused : goal.returns-then-is_negative-clause-refused
returns-then-is_negative-clause-refused c =
    let negative : first_bit c.args.octets.now ≡ true = sym c.is_negative.ensures ∙ c.if-is_negative.true in
    inl (inr (refl, (sign_is c.args.octets.now).0 negative))

pub returns-in-Some-clause-number : goal.returns-in-Some-clause-number
returns-in-Some-clause-number c =
    let some : c.args.octets.now ≢ [] = search rules in
    let sign : false ≡ first_bit c.args.octets.now = sym c.if-is_negative.false ∙ c.is_negative.ensures in
    spells_of c.args.octets.now false c.in-Some.size some sign c.in-Some.ensures.1

pub returns-in-None-clause-refused : goal.returns-in-None-clause-refused
returns-in-None-clause-refused c =
    let sign : first_bit c.args.octets.now ≡ false = sym c.is_negative.ensures ∙ c.if-is_negative.false in
    let large : 2 ^ 128 ≤ number_from_digits 256 c.args.octets.now = omega (arith, c.in-None.ensures) in
    inr (refl, too_large c.args.octets.now 128 sign large)

pub returns-then-is_empty-clause-exact : goal.returns-then-is_empty-clause-exact
returns-then-is_empty-clause-exact c =
    let octets = c.args.octets.now in
    sym (unsigned_refused 128 octets errors.InvalidLength (natural_none octets (eqb-true _ 0 (sym c.if-is_empty.ensures))))

pub returns-then-is_negative-clause-exact : goal.returns-then-is_negative-clause-exact
returns-then-is_negative-clause-exact c =
    let octets = c.args.octets.now in
    let some : octets ≢ [] = search rules in
    let negative : first_bit octets ≡ true = sym c.is_negative.ensures ∙ c.if-is_negative.true in
    sym (unsigned_refused 128 octets errors.IntegerNegative (natural_below octets some ((sign_is octets).0 negative)))

pub returns-in-Some-clause-exact : goal.returns-in-Some-clause-exact
returns-in-Some-clause-exact c =
    let octets = c.args.octets.now in
    let some : octets ≢ [] = search rules in
    let sign : false ≡ first_bit octets = sym c.if-is_negative.false ∙ c.is_negative.ensures in
    let size = c.in-Some.ensures in
    sym (unsigned_only 128 octets c.in-Some.size (spells_of octets false c.in-Some.size some sign size.1) (omega arith))

pub returns-in-None-clause-exact : goal.returns-in-None-clause-exact
returns-in-None-clause-exact c =
    let octets = c.args.octets.now in
    let some : octets ≢ [] = search rules in
    let sign : false ≡ first_bit octets = sym c.if-is_negative.false ∙ c.is_negative.ensures in
    let number = number_from_digits 256 octets in
    let spelled = spells_of octets false number some sign refl in
    sym (unsigned_large 128 octets number ((natural_is octets number).1 spelled) (omega (arith, c.in-None.ensures)))
