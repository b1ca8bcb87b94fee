use Rattle.std.proofs.Common.{refl}
use Rattle.x509_core.specs.declared.error.X509Error.TheVariants as errors
use Rattle.x509_ext.specs.Fields.{IsUnparsed, unread}
use Rattle.x509_ext.proofs.ExtensionLaws.{unread_law}
use Rattle.laws_x509.specs.RefusedOctets as refused
use Rattle.laws_x509.proofs.Below.{below_tested}
use Rattle.laws_x509.proofs.ExtensionSteps.{version_only, extension_only, extensions_refused}
use Rattle.laws_x509.proofs.RefusedExtensions.{no_version_there, no_extension, no_extensions}
use Rattle.laws_x509.proofs.refused.example_of_refused_extensions.Goals as goal

pub returns-clause-version : goal.returns-clause-version
returns-clause-version c = let below = below_tested refused.empty refl in (below, version_only errors.InvalidVersion refused.empty below no_version_there, no_version_there)

pub returns-clause-extension : goal.returns-clause-extension
returns-clause-extension c = let below = below_tested refused.empty refl in (below, extension_only IsUnparsed unread unread_law errors.InvalidExtensions refused.empty below no_extension, no_extension)

pub returns-clause-wrapper : goal.returns-clause-wrapper
returns-clause-wrapper c = let below = below_tested refused.other_wrapper refl in (below, extensions_refused unread 3 errors.InvalidExtensions refused.other_wrapper below no_extensions, no_extensions)
