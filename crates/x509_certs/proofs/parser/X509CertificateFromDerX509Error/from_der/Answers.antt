use Rattle.std.proofs.Common.{arith}
use Rattle.asn1_core.proofs.Numbers.{octets_below}
use Rattle.x509_core.specs.Grammar.{HoldsWhole}
use Rattle.x509_core.proofs.Grammars.{next_reading}
use Rattle.x509_core.proofs.FrontLaws.{gives_reads}
use Rattle.x509_core.proofs.Public.{gives_found, gives_only}
use Rattle.x509_ext.specs.Values.{IsParsed, deeply}
use Rattle.x509_ext.proofs.ExtensionLaws.{deep_law}
use Rattle.x509_certs.specs.Certificates.{CertificateParts, X509Certificate}
use Rattle.x509_certs.specs.Reading.{certificate_in, certificate_at}
use Rattle.x509_certs.specs.View.{certificate_view}
use Rattle.x509_certs.proofs.CertificateLaws.{certificate_meaning, certificate_window}
use Rattle.x509_certs.proofs.parser.X509CertificateFromDerX509Error.from_der.Goals as goal

pub returns-clause-reads : goal.returns-clause-reads
returns-clause-reads c =
    gives_reads (HoldsWhole 16 (CertificateParts IsParsed) (λ c. c.raw)) (certificate_in deeply) (certificate_meaning IsParsed deeply deep_law) certificate_view c.args.bytes.now c.certificate_at_front.result
    (octets_below c.args.bytes.now (λ k. omega (arith, c.type_inv.bytes k))) c.certificate_at_front.ensures.exact c.certificate_at_front.ensures.missing

pub returns-clause-window : goal.returns-clause-window
returns-clause-window c =
    certificate_window IsParsed c.args.bytes.now c.certificate_at_front.result
    (gives_found (X509Certificate IsParsed) (certificate_at deeply) (next_reading (HoldsWhole 16 (CertificateParts IsParsed) (λ c. c.raw)) (certificate_in deeply) (certificate_meaning IsParsed deeply deep_law)) certificate_view c.args.bytes.now c.certificate_at_front.result
    (octets_below c.args.bytes.now (λ k. omega (arith, c.type_inv.bytes k))) c.certificate_at_front.ensures.exact)

pub returns-clause-found : goal.returns-clause-found
returns-clause-found c =
    gives_found (X509Certificate IsParsed) (certificate_at deeply) (next_reading (HoldsWhole 16 (CertificateParts IsParsed) (λ c. c.raw)) (certificate_in deeply) (certificate_meaning IsParsed deeply deep_law)) certificate_view c.args.bytes.now c.certificate_at_front.result
    (octets_below c.args.bytes.now (λ k. omega (arith, c.type_inv.bytes k))) c.certificate_at_front.ensures.exact

pub returns-clause-only : goal.returns-clause-only
returns-clause-only c =
    gives_only (X509Certificate IsParsed) (certificate_at deeply) (next_reading (HoldsWhole 16 (CertificateParts IsParsed) (λ c. c.raw)) (certificate_in deeply) (certificate_meaning IsParsed deeply deep_law)) certificate_view c.args.bytes.now c.certificate_at_front.result
    (octets_below c.args.bytes.now (λ k. omega (arith, c.type_inv.bytes k))) c.certificate_at_front.ensures.exact
