use Rattle.std.proofs.Common.{refl}
use Rattle.x509_core.specs.declared.error.X509Error.TheVariants as errors
use Rattle.x509_ext.specs.Fields.{IsUnparsed, unread}
use Rattle.x509_ext.proofs.ExtensionLaws.{unread_law}
use Rattle.laws_x509.specs.RefusedOctets as refused
use Rattle.laws_x509.proofs.Below.{below_tested}
use Rattle.laws_x509.proofs.EntrySteps.{entry_only}
use Rattle.laws_x509.proofs.ListSteps.{tbs_only, list_only}
use Rattle.laws_x509.proofs.RefusedLists.{no_entry_serial, no_entry_date, no_list_algorithm, no_date, no_list_extensions, no_list_bits}
use Rattle.laws_x509.proofs.refused.example_of_refused_lists.Goals as goal

pub returns-clause-entry_serial : goal.returns-clause-entry_serial
returns-clause-entry_serial c = let below = below_tested refused.empty refl in (below, entry_only unread errors.InvalidSerial refused.empty below no_entry_serial, no_entry_serial)

pub returns-clause-entry_date : goal.returns-clause-entry_date
returns-clause-entry_date c = let below = below_tested refused.no_entry_date refl in (below, entry_only unread errors.InvalidDate refused.no_entry_date below no_entry_date, no_entry_date)

pub returns-clause-signature : goal.returns-clause-signature
returns-clause-signature c = let below = below_tested refused.no_list_algorithm refl in (below, tbs_only IsUnparsed unread unread_law errors.InvalidAlgorithmIdentifier refused.no_list_algorithm below no_list_algorithm, no_list_algorithm)

pub returns-clause-date : goal.returns-clause-date
returns-clause-date c = let below = below_tested refused.no_date refl in (below, tbs_only IsUnparsed unread unread_law errors.InvalidDate refused.no_date below no_date, no_date)

pub returns-clause-extensions : goal.returns-clause-extensions
returns-clause-extensions c = let below = below_tested refused.no_list_extensions refl in (below, tbs_only IsUnparsed unread unread_law errors.InvalidExtensions refused.no_list_extensions below no_list_extensions, no_list_extensions)

pub returns-clause-signature_value : goal.returns-clause-signature_value
returns-clause-signature_value c = let below = below_tested refused.no_list_bits refl in (below, list_only IsUnparsed unread unread_law errors.InvalidSignatureValue refused.no_list_bits below no_list_bits, no_list_bits)
