use Rattle.asn1_values.specs.ReaderLaws.{some_is, integer_is, natural_is, unsigned_is, signed_is}
use Rattle.asn1_values.proofs.laws.integer_functions.Goals as goal

pub returns : goal.returns
returns c = record { held = some_is; whole = integer_is; natural = natural_is; unsigned = unsigned_is; signed = signed_is }
