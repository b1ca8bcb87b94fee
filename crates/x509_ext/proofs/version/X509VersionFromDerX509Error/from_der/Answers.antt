use Rattle.std.proofs.Common.{arith}
use Rattle.asn1_core.proofs.Numbers.{octets_below}
use Rattle.x509_core.proofs.Public.{gives_found}
use Rattle.x509_core.specs.declared.error.X509Error.TheVariants as errors
use Rattle.x509_core.proofs.FrontLaws.{gives_whole, gives_only_whole}
use Rattle.x509_ext.specs.Parts.{X509Version}
use Rattle.x509_ext.specs.Reading.{version_at}
use Rattle.x509_ext.proofs.PartLaws.{version_reading}
use Rattle.x509_ext.proofs.version.X509VersionFromDerX509Error.from_der.Goals as goal

pub returns-clause-reads : goal.returns-clause-reads
returns-clause-reads c =
    gives_whole X509Version version_at version_reading (λ v. v.0) c.args.bytes.now errors.InvalidVersion c.version_at_front.result
    (octets_below c.args.bytes.now (λ k. omega (arith, c.type_inv.bytes k))) c.version_at_front.ensures.exact c.version_at_front.ensures.refused

pub returns-clause-found : goal.returns-clause-found
returns-clause-found c =
    gives_found X509Version version_at version_reading (λ v. v.0) c.args.bytes.now c.version_at_front.result
    (octets_below c.args.bytes.now (λ k. omega (arith, c.type_inv.bytes k))) c.version_at_front.ensures.exact

pub returns-clause-only : goal.returns-clause-only
returns-clause-only c =
    gives_only_whole X509Version version_at version_reading (λ v. v.0) c.args.bytes.now errors.InvalidVersion c.version_at_front.result
    (octets_below c.args.bytes.now (λ k. omega (arith, c.type_inv.bytes k))) c.version_at_front.ensures.exact c.version_at_front.ensures.refused
