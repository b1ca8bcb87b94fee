use Rattle.std.proofs.Common.{sym, rules}
use Rattle.std.proofs.lemmas.Bool.{eqb-true}
use Rattle.asn1_values.specs.Bits.{BitsMean}
use Rattle.asn1_values.specs.ReaderLaws.{bits_is, bits_none, bits_many, bits_lost}
use Rattle.asn1_values.proofs.bitstring.read_bits.Goals as goal

pub returns-in_default-clause-exact : goal.returns-in_default-clause-exact
returns-in_default-clause-exact c = bits_none c.args.octets.now c.in_default.ensures.cases

pub returns-then-unused-gt7-clause-exact : goal.returns-then-unused-gt7-clause-exact
returns-then-unused-gt7-clause-exact c = bits_many c.args.octets.now c.in-Some.unused.now c.in-Some.content.now c.in-Some.ensures.cases.0 c.if-unused-gt7.true

pub returns-then-is_empty-clause-exact : goal.returns-then-is_empty-clause-exact
returns-then-is_empty-clause-exact c =
    bits_lost c.args.octets.now c.in-Some.unused.now c.in-Some.content.now c.in-Some.ensures.cases.0 c.if-unused-gt0.true c.if-unused-gt7.false
    (eqb-true _ 0 (sym c.if-is_empty.ensures))

pub returns-clause-exact : goal.returns-clause-exact
returns-clause-exact c =
    let read : BitsMean c.args.octets.now c.new.result.unused_bits c.new.result.content.now = search rules in
    (bits_is c.args.octets.now c.new.result.unused_bits c.new.result.content.now).1 read
