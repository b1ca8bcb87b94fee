use Rattle.asn1_values.specs.ReaderLaws.{bits_is, check_bits_is}
use Rattle.asn1_values.proofs.laws.bit_functions.Goals as goal

pub returns : goal.returns
returns c = record { ber = bits_is; der = check_bits_is }
