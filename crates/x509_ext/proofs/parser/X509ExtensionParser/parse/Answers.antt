use Rattle.std.proofs.Common.{arith}
use Rattle.asn1_core.proofs.Numbers.{octets_below}
use Rattle.x509_core.proofs.Public.{gives_found, gives_only}
use Rattle.x509_ext.specs.Extensions.{X509Extension}
use Rattle.x509_ext.specs.Fields.{meaning_of, reading_of}
use Rattle.x509_ext.specs.Reading.{named_extension_at}
use Rattle.x509_ext.specs.View.{extension_view}
use Rattle.x509_ext.proofs.ExtensionLaws.{reads_law, named_extension_reading}
use Rattle.x509_ext.proofs.parser.X509ExtensionParser.parse.Goals as goal

pub returns-clause-found : goal.returns-clause-found
returns-clause-found c =
    gives_found (X509Extension (meaning_of c.args.self.now.deep_parse_extensions)) (named_extension_at (reading_of c.args.self.now.deep_parse_extensions)) (named_extension_reading (meaning_of c.args.self.now.deep_parse_extensions) (reading_of c.args.self.now.deep_parse_extensions) (reads_law c.args.self.now.deep_parse_extensions)) extension_view c.args.i.now c.extension_at_front.result
    (octets_below c.args.i.now (λ k. omega (arith, c.type_inv.i k))) c.extension_at_front.ensures.exact

pub returns-clause-only : goal.returns-clause-only
returns-clause-only c =
    gives_only (X509Extension (meaning_of c.args.self.now.deep_parse_extensions)) (named_extension_at (reading_of c.args.self.now.deep_parse_extensions)) (named_extension_reading (meaning_of c.args.self.now.deep_parse_extensions) (reading_of c.args.self.now.deep_parse_extensions) (reads_law c.args.self.now.deep_parse_extensions)) extension_view c.args.i.now c.extension_at_front.result
    (octets_below c.args.i.now (λ k. omega (arith, c.type_inv.i k))) c.extension_at_front.ensures.exact
