use Rattle.std.proofs.Common.{List, Option}
use Rattle.asn1_core.specs.declared.error.Error.{Error}
use Rattle.asn1_core.specs.declared.outcome.Err.{Err as Refusal}
use Rattle.asn1_unsigned.specs.declared.unsigned.UnsignedBytes.{UnsignedBytes}
use Rattle.x509_ext.proofs.Pairs.{both, firsts, seconds}
use Rattle.x509_lists.specs.View.{entry_view, entry_errors}
use Rattle.x509_lists.specs.declared.entry.RevokedCertificate.{RevokedCertificate}
use Rattle.x509_lists.proofs.entries.copy_entries.Goals as goal

abbrev number : RevokedCertificate → UnsignedBytes
number e = e.user_certificate

abbrev held : RevokedCertificate → UnsignedBytes × List (Option (Refusal Error))
held = both number entry_errors

pub returns-clause-value : goal.returns-clause-value
returns-clause-value c = firsts entry_view held c.args.entries.now c.copy_all.result c.copy_all.ensures

pub returns-clause-serials : goal.returns-clause-serials
returns-clause-serials c = firsts number entry_errors c.args.entries.now c.copy_all.result (seconds entry_view held c.args.entries.now c.copy_all.result c.copy_all.ensures)

pub returns-clause-errors : goal.returns-clause-errors
returns-clause-errors c = seconds number entry_errors c.args.entries.now c.copy_all.result (seconds entry_view held c.args.entries.now c.copy_all.result c.copy_all.ensures)
