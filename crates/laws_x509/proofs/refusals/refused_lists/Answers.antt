use Rattle.x509_ext.specs.Fields.{meaning_of, reading_of}
use Rattle.x509_ext.proofs.ExtensionLaws.{reads_law}
use Rattle.laws_x509.proofs.EntrySteps.{entry_found, entry_only}
use Rattle.laws_x509.proofs.ListSteps.{tbs_found, tbs_only, list_found, list_only}
use Rattle.laws_x509.proofs.refusals.refused_lists.Goals as goal

pub returns-clause-entry_found : goal.returns-clause-entry_found
returns-clause-entry_found c = entry_found

pub returns-clause-entry_only : goal.returns-clause-entry_only
returns-clause-entry_only c = entry_only

pub returns-clause-signed_found : goal.returns-clause-signed_found
returns-clause-signed_found c = λ deep. tbs_found (meaning_of deep) (reading_of deep) (reads_law deep)

pub returns-clause-signed_only : goal.returns-clause-signed_only
returns-clause-signed_only c = λ deep. tbs_only (meaning_of deep) (reading_of deep) (reads_law deep)

pub returns-clause-found : goal.returns-clause-found
returns-clause-found c = λ deep. list_found (meaning_of deep) (reading_of deep) (reads_law deep)

pub returns-clause-only : goal.returns-clause-only
returns-clause-only c = λ deep. list_only (meaning_of deep) (reading_of deep) (reads_law deep)
