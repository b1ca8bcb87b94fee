use Rattle.std.proofs.Common.{arith}
use Rattle.asn1_core.proofs.Numbers.{octets_below}
use Rattle.x509_core.specs.Grammar.{HoldsWhole}
use Rattle.x509_core.proofs.Grammars.{next_reading}
use Rattle.x509_core.proofs.Public.{gives_found, gives_only}
use Rattle.x509_ext.specs.Fields.{IsUnparsed, unread}
use Rattle.x509_ext.proofs.ExtensionLaws.{unread_law}
use Rattle.x509_lists.specs.Lists.{ListParts, CertificateRevocationList}
use Rattle.x509_lists.specs.Reading.{list_in, list_at}
use Rattle.x509_lists.specs.View.{list_view}
use Rattle.x509_lists.proofs.ListLaws.{list_meaning, list_window}
use Rattle.x509_lists.proofs.parser.CertificateRevocationListParser.parse_counted.Goals as goal

pub returns-clause-window : goal.returns-clause-window
returns-clause-window c =
    list_window IsUnparsed c.args.i.now c.counted_list.result
    (gives_found (CertificateRevocationList IsUnparsed) (list_at unread) (next_reading (HoldsWhole 16 (ListParts IsUnparsed) (λ l. l.raw)) (list_in unread) (list_meaning IsUnparsed unread unread_law)) list_view c.args.i.now c.counted_list.result
    (octets_below c.args.i.now (λ k. omega (arith, c.type_inv.i k))) c.counted_list.ensures.exact)

pub returns-clause-found : goal.returns-clause-found
returns-clause-found c =
    gives_found (CertificateRevocationList IsUnparsed) (list_at unread) (next_reading (HoldsWhole 16 (ListParts IsUnparsed) (λ l. l.raw)) (list_in unread) (list_meaning IsUnparsed unread unread_law)) list_view c.args.i.now c.counted_list.result
    (octets_below c.args.i.now (λ k. omega (arith, c.type_inv.i k))) c.counted_list.ensures.exact

pub returns-clause-only : goal.returns-clause-only
returns-clause-only c =
    gives_only (CertificateRevocationList IsUnparsed) (list_at unread) (next_reading (HoldsWhole 16 (ListParts IsUnparsed) (λ l. l.raw)) (list_in unread) (list_meaning IsUnparsed unread unread_law)) list_view c.args.i.now c.counted_list.result
    (octets_below c.args.i.now (λ k. omega (arith, c.type_inv.i k))) c.counted_list.ensures.exact
