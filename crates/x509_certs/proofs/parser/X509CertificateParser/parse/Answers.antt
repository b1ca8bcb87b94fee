use Rattle.std.proofs.Common.{arith}
use Rattle.asn1_core.proofs.Numbers.{octets_below}
use Rattle.x509_core.specs.Grammar.{HoldsWhole}
use Rattle.x509_core.proofs.Grammars.{next_reading}
use Rattle.x509_core.proofs.Public.{gives_found, gives_only}
use Rattle.x509_ext.specs.Fields.{meaning_of, reading_of}
use Rattle.x509_ext.proofs.ExtensionLaws.{reads_law}
use Rattle.x509_certs.specs.Certificates.{CertificateParts, X509Certificate}
use Rattle.x509_certs.specs.Reading.{certificate_in, certificate_at}
use Rattle.x509_certs.specs.View.{certificate_view}
use Rattle.x509_certs.proofs.CertificateLaws.{certificate_meaning, certificate_window}
use Rattle.x509_certs.proofs.parser.X509CertificateParser.parse.Goals as goal

pub returns-clause-window : goal.returns-clause-window
returns-clause-window c =
    certificate_window (meaning_of c.args.self.now.deep_parse_extensions) c.args.i.now c.certificate_at_front.result
    (gives_found (X509Certificate (meaning_of c.args.self.now.deep_parse_extensions)) (certificate_at (reading_of c.args.self.now.deep_parse_extensions)) (next_reading (HoldsWhole 16 (CertificateParts (meaning_of c.args.self.now.deep_parse_extensions)) (λ c. c.raw)) (certificate_in (reading_of c.args.self.now.deep_parse_extensions)) (certificate_meaning (meaning_of c.args.self.now.deep_parse_extensions) (reading_of c.args.self.now.deep_parse_extensions) (reads_law c.args.self.now.deep_parse_extensions))) certificate_view c.args.i.now c.certificate_at_front.result
    (octets_below c.args.i.now (λ k. omega (arith, c.type_inv.i k))) c.certificate_at_front.ensures.exact)

pub returns-clause-found : goal.returns-clause-found
returns-clause-found c =
    gives_found (X509Certificate (meaning_of c.args.self.now.deep_parse_extensions)) (certificate_at (reading_of c.args.self.now.deep_parse_extensions)) (next_reading (HoldsWhole 16 (CertificateParts (meaning_of c.args.self.now.deep_parse_extensions)) (λ c. c.raw)) (certificate_in (reading_of c.args.self.now.deep_parse_extensions)) (certificate_meaning (meaning_of c.args.self.now.deep_parse_extensions) (reading_of c.args.self.now.deep_parse_extensions) (reads_law c.args.self.now.deep_parse_extensions))) certificate_view c.args.i.now c.certificate_at_front.result
    (octets_below c.args.i.now (λ k. omega (arith, c.type_inv.i k))) c.certificate_at_front.ensures.exact

pub returns-clause-only : goal.returns-clause-only
returns-clause-only c =
    gives_only (X509Certificate (meaning_of c.args.self.now.deep_parse_extensions)) (certificate_at (reading_of c.args.self.now.deep_parse_extensions)) (next_reading (HoldsWhole 16 (CertificateParts (meaning_of c.args.self.now.deep_parse_extensions)) (λ c. c.raw)) (certificate_in (reading_of c.args.self.now.deep_parse_extensions)) (certificate_meaning (meaning_of c.args.self.now.deep_parse_extensions) (reading_of c.args.self.now.deep_parse_extensions) (reads_law c.args.self.now.deep_parse_extensions))) certificate_view c.args.i.now c.certificate_at_front.result
    (octets_below c.args.i.now (λ k. omega (arith, c.type_inv.i k))) c.certificate_at_front.ensures.exact
