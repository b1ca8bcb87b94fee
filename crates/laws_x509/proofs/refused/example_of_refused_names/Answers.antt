use Rattle.std.proofs.Common.{refl}
use Rattle.x509_core.specs.declared.error.X509Error.TheVariants as errors
use Rattle.laws_x509.specs.RefusedOctets as refused
use Rattle.laws_x509.proofs.Below.{below_tested}
use Rattle.laws_x509.proofs.NameSteps.{algorithm_only, attribute_only, key_only, rsa_only}
use Rattle.laws_x509.proofs.RefusedParts.{no_identifier, no_type, no_value, no_key_algorithm, no_key_bits, no_rsa_key}
use Rattle.laws_x509.proofs.refused.example_of_refused_names.Goals as goal

pub returns-clause-algorithm : goal.returns-clause-algorithm
returns-clause-algorithm c = let below = below_tested refused.empty refl in (below, algorithm_only errors.InvalidAlgorithmIdentifier refused.empty below no_identifier, no_identifier)

pub returns-clause-attr_type : goal.returns-clause-attr_type
returns-clause-attr_type c = let below = below_tested refused.empty refl in (below, attribute_only errors.InvalidX509Name refused.empty below no_type, no_type)

pub returns-clause-attr_value : goal.returns-clause-attr_value
returns-clause-attr_value c = let below = below_tested refused.no_value refl in (below, attribute_only errors.InvalidX509Name refused.no_value below no_value, no_value)

pub returns-clause-key_algorithm : goal.returns-clause-key_algorithm
returns-clause-key_algorithm c = let below = below_tested refused.no_key_algorithm refl in (below, key_only errors.InvalidAlgorithmIdentifier refused.no_key_algorithm below no_key_algorithm, no_key_algorithm)

pub returns-clause-key_bits : goal.returns-clause-key_bits
returns-clause-key_bits c = let below = below_tested refused.no_key_bits refl in (below, key_only errors.InvalidSPKI refused.no_key_bits below no_key_bits, no_key_bits)

pub returns-clause-rsa_key : goal.returns-clause-rsa_key
returns-clause-rsa_key c = let below = below_tested refused.empty refl in (below, rsa_only errors.InvalidSPKI refused.empty below no_rsa_key, no_rsa_key)
