use Rattle.x509_ext.specs.Fields.{meaning_of, reading_of}
use Rattle.x509_ext.proofs.ExtensionLaws.{reads_law}
use Rattle.laws_x509.proofs.ExtensionSteps.{version_found, version_only, extension_found, extension_only, extensions_told, extensions_refused}
use Rattle.laws_x509.proofs.refusals.refused_extensions.Goals as goal

pub returns-clause-version_found : goal.returns-clause-version_found
returns-clause-version_found c = version_found

pub returns-clause-version_only : goal.returns-clause-version_only
returns-clause-version_only c = version_only

pub returns-clause-extension_found : goal.returns-clause-extension_found
returns-clause-extension_found c = λ deep. extension_found (meaning_of deep) (reading_of deep) (reads_law deep)

pub returns-clause-extension_only : goal.returns-clause-extension_only
returns-clause-extension_only c = λ deep. extension_only (meaning_of deep) (reading_of deep) (reads_law deep)

pub returns-clause-wrapper_found : goal.returns-clause-wrapper_found
returns-clause-wrapper_found c = extensions_told

pub returns-clause-wrapper_only : goal.returns-clause-wrapper_only
returns-clause-wrapper_only c = extensions_refused
