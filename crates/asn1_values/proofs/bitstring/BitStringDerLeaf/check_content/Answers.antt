use Rattle.std.proofs.Common.{refl}
use Rattle.asn1_values.specs.ReaderLaws.{bits_refused, bits_zero, bits_set}
use Rattle.asn1_values.proofs.bitstring.BitStringDerLeaf.check_content.Goals as goal

pub returns-in-Err-clause-exact : goal.returns-in-Err-clause-exact
returns-in-Err-clause-exact c = bits_refused c.args.octets.now c.in-Err.e c.in-Err.ensures.exact

pub returns-then-are_unused_zero-clause-exact : goal.returns-then-are_unused_zero-clause-exact
returns-then-are_unused_zero-clause-exact c =
    bits_zero c.args.octets.now c.in-Ok.bits.unused_bits c.in-Ok.bits.content.now c.in-Ok.ensures.exact (c.if-are_unused_zero.ensures.0 refl)

pub returns-else-are_unused_zero-clause-exact : goal.returns-else-are_unused_zero-clause-exact
returns-else-are_unused_zero-clause-exact c =
    bits_set c.args.octets.now c.in-Ok.bits.unused_bits c.in-Ok.bits.content.now c.in-Ok.ensures.exact (λ none. let never = c.if-are_unused_zero.ensures.1 none in cc)
