use Rattle.std.proofs.Common.{arith}
use Rattle.asn1_core.proofs.Numbers.{octets_below}
use Rattle.x509_core.proofs.Public.{gives_found, gives_only}
use Rattle.x509_core.specs.declared.error.X509Error.TheVariants as errors
use Rattle.x509_ext.specs.Values.{IsParsed, deeply}
use Rattle.x509_ext.proofs.ExtensionLaws.{deep_law}
use Rattle.x509_core.proofs.FrontLaws.{gives_only_named}
use Rattle.x509_requests.specs.Requests.{X509CriAttribute}
use Rattle.x509_requests.specs.Reading.{named_attribute_at}
use Rattle.x509_requests.specs.View.{attribute_view}
use Rattle.x509_requests.proofs.AttributeLaws.{named_attribute_reading}
use Rattle.x509_requests.proofs.parser.X509CriAttributeFromDerX509Error.from_der.Goals as goal

pub returns-clause-reads : goal.returns-clause-reads
returns-clause-reads c =
    gives_only_named (X509CriAttribute IsParsed) (named_attribute_at deeply) (named_attribute_reading IsParsed deeply deep_law) attribute_view c.args.bytes.now errors.InvalidAttributes c.attribute_at_front.result
    (octets_below c.args.bytes.now (λ k. omega (arith, c.type_inv.bytes k))) c.attribute_at_front.ensures.exact c.attribute_at_front.ensures.refused

pub returns-clause-found : goal.returns-clause-found
returns-clause-found c =
    gives_found (X509CriAttribute IsParsed) (named_attribute_at deeply) (named_attribute_reading IsParsed deeply deep_law) attribute_view c.args.bytes.now c.attribute_at_front.result
    (octets_below c.args.bytes.now (λ k. omega (arith, c.type_inv.bytes k))) c.attribute_at_front.ensures.exact

pub returns-clause-only : goal.returns-clause-only
returns-clause-only c =
    gives_only (X509CriAttribute IsParsed) (named_attribute_at deeply) (named_attribute_reading IsParsed deeply deep_law) attribute_view c.args.bytes.now c.attribute_at_front.result
    (octets_below c.args.bytes.now (λ k. omega (arith, c.type_inv.bytes k))) c.attribute_at_front.ensures.exact
