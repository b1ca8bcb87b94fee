use Rattle.asn1_any.proofs.DerLaws.{strict_spells, any_der_spelled}
use Rattle.asn1_any.proofs.BerReading.{any_ber_spelled}
use Rattle.asn1_any.proofs.laws.strict_is_definite.Goals as goal

pub returns-clause-spells : goal.returns-clause-spells
returns-clause-spells c = λ e in_range. strict_spells e in_range

pub returns-clause-der : goal.returns-clause-der
returns-clause-der c = λ e rest in_range. any_der_spelled e rest in_range

pub returns-clause-ber : goal.returns-clause-ber
returns-clause-ber c = λ e rest in_range. any_ber_spelled e rest in_range
