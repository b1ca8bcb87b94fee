use Rattle.std.proofs.Common.{arith}
use Rattle.asn1_core.proofs.Numbers.{octets_below}
use Rattle.x509_core.specs.Grammar.{HoldsWhole}
use Rattle.x509_core.proofs.Grammars.{next_reading}
use Rattle.x509_core.proofs.Public.{gives_found, gives_only}
use Rattle.x509_ext.specs.Fields.{meaning_of, reading_of}
use Rattle.x509_ext.proofs.ExtensionLaws.{reads_law}
use Rattle.x509_lists.specs.Lists.{ListParts, CertificateRevocationList}
use Rattle.x509_lists.specs.Reading.{list_in, list_at}
use Rattle.x509_lists.specs.View.{list_view}
use Rattle.x509_lists.proofs.ListLaws.{list_meaning, list_window}
use Rattle.x509_lists.proofs.parser.CertificateRevocationListParser.parse.Goals as goal

pub returns-clause-window : goal.returns-clause-window
returns-clause-window c =
    list_window (meaning_of c.args.self.now.deep_parse_extensions) c.args.i.now c.list_at_front.result
    (gives_found (CertificateRevocationList (meaning_of c.args.self.now.deep_parse_extensions)) (list_at (reading_of c.args.self.now.deep_parse_extensions)) (next_reading (HoldsWhole 16 (ListParts (meaning_of c.args.self.now.deep_parse_extensions)) (λ l. l.raw)) (list_in (reading_of c.args.self.now.deep_parse_extensions)) (list_meaning (meaning_of c.args.self.now.deep_parse_extensions) (reading_of c.args.self.now.deep_parse_extensions) (reads_law c.args.self.now.deep_parse_extensions))) list_view c.args.i.now c.list_at_front.result
    (octets_below c.args.i.now (λ k. omega (arith, c.type_inv.i k))) c.list_at_front.ensures.exact)

pub returns-clause-found : goal.returns-clause-found
returns-clause-found c =
    gives_found (CertificateRevocationList (meaning_of c.args.self.now.deep_parse_extensions)) (list_at (reading_of c.args.self.now.deep_parse_extensions)) (next_reading (HoldsWhole 16 (ListParts (meaning_of c.args.self.now.deep_parse_extensions)) (λ l. l.raw)) (list_in (reading_of c.args.self.now.deep_parse_extensions)) (list_meaning (meaning_of c.args.self.now.deep_parse_extensions) (reading_of c.args.self.now.deep_parse_extensions) (reads_law c.args.self.now.deep_parse_extensions))) list_view c.args.i.now c.list_at_front.result
    (octets_below c.args.i.now (λ k. omega (arith, c.type_inv.i k))) c.list_at_front.ensures.exact

pub returns-clause-only : goal.returns-clause-only
returns-clause-only c =
    gives_only (CertificateRevocationList (meaning_of c.args.self.now.deep_parse_extensions)) (list_at (reading_of c.args.self.now.deep_parse_extensions)) (next_reading (HoldsWhole 16 (ListParts (meaning_of c.args.self.now.deep_parse_extensions)) (λ l. l.raw)) (list_in (reading_of c.args.self.now.deep_parse_extensions)) (list_meaning (meaning_of c.args.self.now.deep_parse_extensions) (reading_of c.args.self.now.deep_parse_extensions) (reads_law c.args.self.now.deep_parse_extensions))) list_view c.args.i.now c.list_at_front.result
    (octets_below c.args.i.now (λ k. omega (arith, c.type_inv.i k))) c.list_at_front.ensures.exact
