use Rattle.std.proofs.Common.{◌≢◌, [], false, rules}
use Rattle.asn1_values.proofs.Signs.{spells_of, not_negative}
use Rattle.std.proofs.lemmas.Bool.{eqb-true}
use Rattle.std.proofs.Common.{sym}
use Rattle.asn1_values.specs.ReaderLaws.{natural_is, natural_none, natural_below}
use Rattle.asn1_values.proofs.integer.Integer.as_unsigned.Goals as goal

pub returns-clause-number : goal.returns-clause-number
returns-clause-number c =
    let octets = c.args.self.now.content.now in
    let some : octets ≢ [] = search rules in
    spells_of octets false _ some (not_negative octets c.is_negative.result c.is_negative.ensures c.if-is_negative.false) c.from_bytes_be.ensures

pub returns-then-is_empty-clause-exact : goal.returns-then-is_empty-clause-exact
returns-then-is_empty-clause-exact c = natural_none c.args.self.now.content.now (eqb-true _ 0 (sym c.if-is_empty.ensures))

pub returns-then-is_negative-clause-exact : goal.returns-then-is_negative-clause-exact
returns-then-is_negative-clause-exact c =
    let octets = c.args.self.now.content.now in
    let some : octets ≢ [] = search rules in
    natural_below octets some (c.is_negative.ensures.0 c.if-is_negative.true)

pub returns-clause-exact : goal.returns-clause-exact
returns-clause-exact c =
    let octets = c.args.self.now.content.now in
    let some : octets ≢ [] = search rules in
    let spelled = spells_of octets false _ some (not_negative octets c.is_negative.result c.is_negative.ensures c.if-is_negative.false) c.from_bytes_be.ensures in
    (natural_is octets _).1 spelled
