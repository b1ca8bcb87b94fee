use Rattle.std.proofs.Common.{arith, map}
use Rattle.asn1_core.proofs.Numbers.{octets_below}
use Rattle.x509_core.specs.Grammar.{Holds, ToEnd}
use Rattle.x509_core.proofs.Public.{gives_found, gives_only}
use Rattle.x509_names.proofs.FrontLaws.{gives_reads}
use Rattle.x509_ext.specs.Extensions.{X509Extension}
use Rattle.x509_ext.specs.Values.{IsParsed, deeply}
use Rattle.x509_ext.specs.Reading.{extension_list_in}
use Rattle.x509_ext.specs.View.{extension_view}
use Rattle.x509_ext.proofs.ExtensionLaws.{deep_law, list_meaning}
use Rattle.x509_requests.specs.Requests.{ExtensionRequest}
use Rattle.x509_requests.specs.Reading.{requested_at}
use Rattle.x509_requests.specs.declared.attribute.ExtensionRequest.{ExtensionRequest as Requested}
use Rattle.x509_requests.proofs.AttributeLaws.{requested_reading}
use Rattle.x509_requests.proofs.parser.ExtensionRequestFromDerX509Error.from_der.Goals as goal

pub returns-clause-reads : goal.returns-clause-reads
returns-clause-reads c =
    gives_reads (Holds 16 (ToEnd (X509Extension IsParsed))) (λ q. extension_list_in deeply q.element) (list_meaning IsParsed deeply deep_law) (λ (r : Requested). map extension_view r.extensions.items) c.args.bytes.now c.extensions_at_front.result
    (octets_below c.args.bytes.now (λ k. omega (arith, c.type_inv.bytes k))) c.extensions_at_front.ensures.exact c.extensions_at_front.ensures.missing

pub returns-clause-found : goal.returns-clause-found
returns-clause-found c =
    gives_found (ExtensionRequest IsParsed) (requested_at deeply) (requested_reading IsParsed deeply deep_law) (λ (r : Requested). map extension_view r.extensions.items) c.args.bytes.now c.extensions_at_front.result
    (octets_below c.args.bytes.now (λ k. omega (arith, c.type_inv.bytes k))) c.extensions_at_front.ensures.exact

pub returns-clause-only : goal.returns-clause-only
returns-clause-only c =
    gives_only (ExtensionRequest IsParsed) (requested_at deeply) (requested_reading IsParsed deeply deep_law) (λ (r : Requested). map extension_view r.extensions.items) c.args.bytes.now c.extensions_at_front.result
    (octets_below c.args.bytes.now (λ k. omega (arith, c.type_inv.bytes k))) c.extensions_at_front.ensures.exact
