use Rattle.std.proofs.Common.{arith}
use Rattle.asn1_core.proofs.Numbers.{octets_below}
use Rattle.x509_core.specs.Grammar.{HoldsWhole}
use Rattle.x509_core.proofs.Grammars.{next_reading}
use Rattle.x509_core.proofs.Public.{gives_found, gives_only}
use Rattle.x509_names.proofs.FrontLaws.{gives_reads}
use Rattle.x509_ext.specs.Values.{IsParsed, deeply}
use Rattle.x509_ext.proofs.ExtensionLaws.{deep_law}
use Rattle.x509_requests.specs.Requests.{RequestParts, X509CertificationRequest}
use Rattle.x509_requests.specs.Reading.{request_in, request_at}
use Rattle.x509_requests.specs.View.{request_view}
use Rattle.x509_requests.proofs.RequestLaws.{request_meaning, request_window}
use Rattle.x509_requests.proofs.parser.X509CertificationRequestFromDerX509Error.from_der.Goals as goal

pub returns-clause-reads : goal.returns-clause-reads
returns-clause-reads c =
    gives_reads (HoldsWhole 16 (RequestParts IsParsed) (λ r. r.raw)) (request_in deeply) (request_meaning IsParsed deeply deep_law) request_view c.args.bytes.now c.request_at_front.result
    (octets_below c.args.bytes.now (λ k. omega (arith, c.type_inv.bytes k))) c.request_at_front.ensures.exact c.request_at_front.ensures.missing

pub returns-clause-window : goal.returns-clause-window
returns-clause-window c =
    request_window IsParsed c.args.bytes.now c.request_at_front.result
    (gives_found (X509CertificationRequest IsParsed) (request_at deeply) (next_reading (HoldsWhole 16 (RequestParts IsParsed) (λ r. r.raw)) (request_in deeply) (request_meaning IsParsed deeply deep_law)) request_view c.args.bytes.now c.request_at_front.result
    (octets_below c.args.bytes.now (λ k. omega (arith, c.type_inv.bytes k))) c.request_at_front.ensures.exact)

pub returns-clause-found : goal.returns-clause-found
returns-clause-found c =
    gives_found (X509CertificationRequest IsParsed) (request_at deeply) (next_reading (HoldsWhole 16 (RequestParts IsParsed) (λ r. r.raw)) (request_in deeply) (request_meaning IsParsed deeply deep_law)) request_view c.args.bytes.now c.request_at_front.result
    (octets_below c.args.bytes.now (λ k. omega (arith, c.type_inv.bytes k))) c.request_at_front.ensures.exact

pub returns-clause-only : goal.returns-clause-only
returns-clause-only c =
    gives_only (X509CertificationRequest IsParsed) (request_at deeply) (next_reading (HoldsWhole 16 (RequestParts IsParsed) (λ r. r.raw)) (request_in deeply) (request_meaning IsParsed deeply deep_law)) request_view c.args.bytes.now c.request_at_front.result
    (octets_below c.args.bytes.now (λ k. omega (arith, c.type_inv.bytes k))) c.request_at_front.ensures.exact
