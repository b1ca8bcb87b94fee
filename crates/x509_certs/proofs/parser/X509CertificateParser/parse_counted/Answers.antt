use Rattle.std.proofs.Common.{arith}
use Rattle.asn1_core.proofs.Numbers.{octets_below}
use Rattle.x509_core.specs.Grammar.{HoldsWhole}
use Rattle.x509_core.proofs.Grammars.{next_reading}
use Rattle.x509_core.proofs.Public.{gives_found, gives_only}
use Rattle.x509_ext.specs.Fields.{IsUnparsed, unread}
use Rattle.x509_ext.proofs.ExtensionLaws.{unread_law}
use Rattle.x509_certs.specs.Certificates.{CertificateParts, X509Certificate}
use Rattle.x509_certs.specs.Reading.{certificate_in, certificate_at}
use Rattle.x509_certs.specs.View.{certificate_view}
use Rattle.x509_certs.proofs.CertificateLaws.{certificate_meaning, certificate_window}
use Rattle.x509_certs.proofs.parser.X509CertificateParser.parse_counted.Goals as goal

pub returns-clause-window : goal.returns-clause-window
returns-clause-window c =
    certificate_window IsUnparsed c.args.i.now c.counted_certificate.result
    (gives_found (X509Certificate IsUnparsed) (certificate_at unread) (next_reading (HoldsWhole 16 (CertificateParts IsUnparsed) (λ c. c.raw)) (certificate_in unread) (certificate_meaning IsUnparsed unread unread_law)) certificate_view c.args.i.now c.counted_certificate.result
    (octets_below c.args.i.now (λ k. omega (arith, c.type_inv.i k))) c.counted_certificate.ensures.exact)

pub returns-clause-found : goal.returns-clause-found
returns-clause-found c =
    gives_found (X509Certificate IsUnparsed) (certificate_at unread) (next_reading (HoldsWhole 16 (CertificateParts IsUnparsed) (λ c. c.raw)) (certificate_in unread) (certificate_meaning IsUnparsed unread unread_law)) certificate_view c.args.i.now c.counted_certificate.result
    (octets_below c.args.i.now (λ k. omega (arith, c.type_inv.i k))) c.counted_certificate.ensures.exact

pub returns-clause-only : goal.returns-clause-only
returns-clause-only c =
    gives_only (X509Certificate IsUnparsed) (certificate_at unread) (next_reading (HoldsWhole 16 (CertificateParts IsUnparsed) (λ c. c.raw)) (certificate_in unread) (certificate_meaning IsUnparsed unread unread_law)) certificate_view c.args.i.now c.counted_certificate.result
    (octets_below c.args.i.now (λ k. omega (arith, c.type_inv.i k))) c.counted_certificate.ensures.exact
