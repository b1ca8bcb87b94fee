use Rattle.std.proofs.Common.{◌≢◌, [], refl, sym, inr, arith, rules}
use Rattle.asn1_values.proofs.Signs.{signed_of, spells_of, size_is, size_of_signed}
use Rattle.std.proofs.lemmas.Bool.{eqb-true}
use Rattle.asn1_traits.specs.Integers.{twos_complement}
use Rattle.asn1_values.specs.ReaderLaws.{signed_none, signed_only, signed_large}
use Rattle.asn1_values.proofs.whole.read_whole.Goals as goal

pub returns-in-Some-clause-number : goal.returns-in-Some-clause-number
returns-in-Some-clause-number c =
    let some : c.args.octets.now ≢ [] = search rules in
    spells_of c.args.octets.now c.is_negative-negative.result c.in-Some.size some c.is_negative-negative.ensures c.in-Some.ensures.1

pub returns-in-None-clause-refused : goal.returns-in-None-clause-refused
returns-in-None-clause-refused c =
    let size = size_is c.args.octets.now c.is_negative-negative.result c.is_negative-negative.ensures in
    inr (refl, λ small. c.in-None.ensures (omega (arith, size, small)))

pub returns-then-is_empty-clause-exact : goal.returns-then-is_empty-clause-exact
returns-then-is_empty-clause-exact c = signed_none 129 c.args.octets.now (eqb-true _ 0 (sym c.if-is_empty.ensures))

pub returns-in-Some-clause-exact : goal.returns-in-Some-clause-exact
returns-in-Some-clause-exact c =
    let octets = c.args.octets.now in
    let negative = c.is_negative-negative.result in
    let some : octets ≢ [] = search rules in
    let size = c.in-Some.ensures in
    let spelled = spells_of octets negative c.in-Some.size some c.is_negative-negative.ensures size.1 in
    let is = size_of_signed negative c.in-Some.size in
    signed_only 129 octets (signed_of negative c.in-Some.size) spelled (omega arith)

pub returns-in-None-clause-exact : goal.returns-in-None-clause-exact
returns-in-None-clause-exact c =
    let octets = c.args.octets.now in
    let some : octets ≢ [] = search rules in
    let size = size_is octets c.is_negative-negative.result c.is_negative-negative.ensures in
    signed_large 129 octets (twos_complement octets) (record { some = some; value = refl }) (omega (arith, size, c.in-None.ensures))
