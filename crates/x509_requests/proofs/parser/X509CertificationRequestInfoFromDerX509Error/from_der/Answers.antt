use Rattle.std.proofs.Common.{arith}
use Rattle.asn1_core.proofs.Numbers.{octets_below}
use Rattle.x509_core.specs.Grammar.{HoldsWindow}
use Rattle.x509_core.proofs.Grammars.{next_reading}
use Rattle.x509_core.proofs.Public.{gives_found, gives_only}
use Rattle.x509_names.proofs.FrontLaws.{gives_reads}
use Rattle.x509_ext.specs.Values.{IsParsed, deeply}
use Rattle.x509_ext.proofs.ExtensionLaws.{deep_law}
use Rattle.x509_requests.specs.Requests.{InfoParts, X509CertificationRequestInfo}
use Rattle.x509_requests.specs.Reading.{info_in, info_at}
use Rattle.x509_requests.specs.View.{info_view}
use Rattle.x509_requests.proofs.RequestLaws.{info_meaning, info_window}
use Rattle.x509_requests.proofs.parser.X509CertificationRequestInfoFromDerX509Error.from_der.Goals as goal

pub returns-clause-reads : goal.returns-clause-reads
returns-clause-reads c =
    gives_reads (HoldsWindow 16 (InfoParts IsParsed) (λ r. r.raw)) (info_in deeply) (info_meaning IsParsed deeply deep_law) info_view c.args.bytes.now c.info_at_front.result
    (octets_below c.args.bytes.now (λ k. omega (arith, c.type_inv.bytes k))) c.info_at_front.ensures.exact c.info_at_front.ensures.missing

pub returns-clause-window : goal.returns-clause-window
returns-clause-window c =
    info_window IsParsed c.args.bytes.now c.info_at_front.result
    (gives_found (X509CertificationRequestInfo IsParsed) (info_at deeply) (next_reading (HoldsWindow 16 (InfoParts IsParsed) (λ r. r.raw)) (info_in deeply) (info_meaning IsParsed deeply deep_law)) info_view c.args.bytes.now c.info_at_front.result
    (octets_below c.args.bytes.now (λ k. omega (arith, c.type_inv.bytes k))) c.info_at_front.ensures.exact)

pub returns-clause-found : goal.returns-clause-found
returns-clause-found c =
    gives_found (X509CertificationRequestInfo IsParsed) (info_at deeply) (next_reading (HoldsWindow 16 (InfoParts IsParsed) (λ r. r.raw)) (info_in deeply) (info_meaning IsParsed deeply deep_law)) info_view c.args.bytes.now c.info_at_front.result
    (octets_below c.args.bytes.now (λ k. omega (arith, c.type_inv.bytes k))) c.info_at_front.ensures.exact

pub returns-clause-only : goal.returns-clause-only
returns-clause-only c =
    gives_only (X509CertificationRequestInfo IsParsed) (info_at deeply) (next_reading (HoldsWindow 16 (InfoParts IsParsed) (λ r. r.raw)) (info_in deeply) (info_meaning IsParsed deeply deep_law)) info_view c.args.bytes.now c.info_at_front.result
    (octets_below c.args.bytes.now (λ k. omega (arith, c.type_inv.bytes k))) c.info_at_front.ensures.exact
