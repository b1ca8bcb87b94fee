use Rattle.std.proofs.Common.{arith}
use Rattle.asn1_core.proofs.Numbers.{octets_below}
use Rattle.x509_core.specs.Grammar.{Holds}
use Rattle.x509_core.proofs.Grammars.{next_reading}
use Rattle.x509_core.proofs.Public.{gives_found, gives_only}
use Rattle.x509_names.proofs.FrontLaws.{gives_reads}
use Rattle.x509_ext.specs.Values.{IsParsed, deeply}
use Rattle.x509_ext.proofs.ExtensionLaws.{deep_law}
use Rattle.x509_lists.specs.Lists.{EntryParts, RevokedCertificate}
use Rattle.x509_lists.specs.Reading.{entry_in, entry_at}
use Rattle.x509_lists.specs.View.{entry_view}
use Rattle.x509_lists.proofs.EntryLaws.{entry_meaning}
use Rattle.x509_lists.proofs.parser.RevokedCertificateFromDerX509Error.from_der.Goals as goal

pub returns-clause-reads : goal.returns-clause-reads
returns-clause-reads c =
    gives_reads (Holds 16 (EntryParts IsParsed)) (λ q. entry_in deeply q.element) (entry_meaning IsParsed deeply deep_law) entry_view c.args.bytes.now c.entry_at_front.result
    (octets_below c.args.bytes.now (λ k. omega (arith, c.type_inv.bytes k))) c.entry_at_front.ensures.exact c.entry_at_front.ensures.missing

pub returns-clause-found : goal.returns-clause-found
returns-clause-found c =
    gives_found (RevokedCertificate IsParsed) (entry_at deeply) (next_reading (Holds 16 (EntryParts IsParsed)) (λ q. entry_in deeply q.element) (entry_meaning IsParsed deeply deep_law)) entry_view c.args.bytes.now c.entry_at_front.result
    (octets_below c.args.bytes.now (λ k. omega (arith, c.type_inv.bytes k))) c.entry_at_front.ensures.exact

pub returns-clause-only : goal.returns-clause-only
returns-clause-only c =
    gives_only (RevokedCertificate IsParsed) (entry_at deeply) (next_reading (Holds 16 (EntryParts IsParsed)) (λ q. entry_in deeply q.element) (entry_meaning IsParsed deeply deep_law)) entry_view c.args.bytes.now c.entry_at_front.result
    (octets_below c.args.bytes.now (λ k. omega (arith, c.type_inv.bytes k))) c.entry_at_front.ensures.exact
