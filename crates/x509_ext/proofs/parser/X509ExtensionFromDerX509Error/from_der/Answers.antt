use Rattle.std.proofs.Common.{arith}
use Rattle.asn1_core.proofs.Numbers.{octets_below}
use Rattle.x509_core.proofs.Public.{gives_found, gives_only}
use Rattle.x509_core.specs.declared.error.X509Error.TheVariants as errors
use Rattle.x509_ext.specs.Extensions.{X509Extension}
use Rattle.x509_ext_parse.specs.Parsed.{IsParsed}
use Rattle.x509_ext_parse.specs.Reading.{deeply}
use Rattle.x509_ext.specs.Reading.{named_extension_at}
use Rattle.x509_ext.specs.View.{extension_view}
use Rattle.x509_ext.proofs.ExtensionLaws.{deep_law, named_extension_reading}
use Rattle.x509_core.proofs.FrontLaws.{gives_only_named}
use Rattle.x509_ext.proofs.parser.X509ExtensionFromDerX509Error.from_der.Goals as goal

pub returns-clause-reads : goal.returns-clause-reads
returns-clause-reads c =
    gives_only_named (X509Extension IsParsed) (named_extension_at deeply) (named_extension_reading IsParsed deeply deep_law) extension_view c.args.bytes.now errors.InvalidExtensions c.extension_at_front.result
    (octets_below c.args.bytes.now (λ k. omega (arith, c.type_inv.bytes k))) c.extension_at_front.ensures.exact c.extension_at_front.ensures.refused

pub returns-clause-found : goal.returns-clause-found
returns-clause-found c =
    gives_found (X509Extension IsParsed) (named_extension_at deeply) (named_extension_reading IsParsed deeply deep_law) extension_view c.args.bytes.now c.extension_at_front.result
    (octets_below c.args.bytes.now (λ k. omega (arith, c.type_inv.bytes k))) c.extension_at_front.ensures.exact

pub returns-clause-only : goal.returns-clause-only
returns-clause-only c =
    gives_only (X509Extension IsParsed) (named_extension_at deeply) (named_extension_reading IsParsed deeply deep_law) extension_view c.args.bytes.now c.extension_at_front.result
    (octets_below c.args.bytes.now (λ k. omega (arith, c.type_inv.bytes k))) c.extension_at_front.ensures.exact
