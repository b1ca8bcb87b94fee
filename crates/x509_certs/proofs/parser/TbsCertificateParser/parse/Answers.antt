use Rattle.std.proofs.Common.{arith}
use Rattle.asn1_core.proofs.Numbers.{octets_below}
use Rattle.x509_core.specs.Grammar.{HoldsWindow}
use Rattle.x509_core.proofs.Grammars.{next_reading}
use Rattle.x509_core.proofs.Public.{gives_found, gives_only}
use Rattle.x509_ext.specs.Fields.{meaning_of, reading_of}
use Rattle.x509_ext.proofs.ExtensionLaws.{reads_law}
use Rattle.x509_certs.specs.Certificates.{TbsParts, TbsCertificate}
use Rattle.x509_certs.specs.Reading.{tbs_in, tbs_at}
use Rattle.x509_certs.specs.View.{tbs_view}
use Rattle.x509_certs.proofs.CertificateLaws.{tbs_meaning, tbs_window}
use Rattle.x509_certs.proofs.parser.TbsCertificateParser.parse.Goals as goal

pub returns-clause-window : goal.returns-clause-window
returns-clause-window c =
    tbs_window (meaning_of c.args.self.now.deep_parse_extensions) c.args.i.now c.tbs_at_front.result
    (gives_found (TbsCertificate (meaning_of c.args.self.now.deep_parse_extensions)) (tbs_at (reading_of c.args.self.now.deep_parse_extensions)) (next_reading (HoldsWindow 16 (TbsParts (meaning_of c.args.self.now.deep_parse_extensions)) (λ t. t.raw)) (tbs_in (reading_of c.args.self.now.deep_parse_extensions)) (tbs_meaning (meaning_of c.args.self.now.deep_parse_extensions) (reading_of c.args.self.now.deep_parse_extensions) (reads_law c.args.self.now.deep_parse_extensions))) tbs_view c.args.i.now c.tbs_at_front.result
    (octets_below c.args.i.now (λ k. omega (arith, c.type_inv.i k))) c.tbs_at_front.ensures.exact)

pub returns-clause-found : goal.returns-clause-found
returns-clause-found c =
    gives_found (TbsCertificate (meaning_of c.args.self.now.deep_parse_extensions)) (tbs_at (reading_of c.args.self.now.deep_parse_extensions)) (next_reading (HoldsWindow 16 (TbsParts (meaning_of c.args.self.now.deep_parse_extensions)) (λ t. t.raw)) (tbs_in (reading_of c.args.self.now.deep_parse_extensions)) (tbs_meaning (meaning_of c.args.self.now.deep_parse_extensions) (reading_of c.args.self.now.deep_parse_extensions) (reads_law c.args.self.now.deep_parse_extensions))) tbs_view c.args.i.now c.tbs_at_front.result
    (octets_below c.args.i.now (λ k. omega (arith, c.type_inv.i k))) c.tbs_at_front.ensures.exact

pub returns-clause-only : goal.returns-clause-only
returns-clause-only c =
    gives_only (TbsCertificate (meaning_of c.args.self.now.deep_parse_extensions)) (tbs_at (reading_of c.args.self.now.deep_parse_extensions)) (next_reading (HoldsWindow 16 (TbsParts (meaning_of c.args.self.now.deep_parse_extensions)) (λ t. t.raw)) (tbs_in (reading_of c.args.self.now.deep_parse_extensions)) (tbs_meaning (meaning_of c.args.self.now.deep_parse_extensions) (reading_of c.args.self.now.deep_parse_extensions) (reads_law c.args.self.now.deep_parse_extensions))) tbs_view c.args.i.now c.tbs_at_front.result
    (octets_below c.args.i.now (λ k. omega (arith, c.type_inv.i k))) c.tbs_at_front.ensures.exact
