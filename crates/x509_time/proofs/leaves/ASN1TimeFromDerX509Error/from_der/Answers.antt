use Rattle.std.proofs.Common.{arith}
use Rattle.asn1_core.proofs.Numbers.{octets_below}
use Rattle.x509_core.proofs.Public.{gives_found}
use Rattle.x509_core.specs.declared.error.X509Error.TheVariants as errors
use Rattle.x509_time.specs.Reading.{time_at}
use Rattle.x509_time.specs.Times.{ASN1Time}
use Rattle.x509_time.specs.View.{time_view}
use Rattle.x509_core.proofs.FrontLaws.{gives_whole, gives_only_whole}
use Rattle.x509_time.proofs.TimeLaws.{time_reading}
use Rattle.x509_time.proofs.leaves.ASN1TimeFromDerX509Error.from_der.Goals as goal

pub returns-clause-reads : goal.returns-clause-reads
returns-clause-reads c =
    gives_whole ASN1Time time_at time_reading time_view c.args.bytes.now errors.InvalidDate c.time_at_front.result
    (octets_below c.args.bytes.now (λ k. omega (arith, c.type_inv.bytes k))) c.time_at_front.ensures.exact c.time_at_front.ensures.refused

pub returns-clause-found : goal.returns-clause-found
returns-clause-found c =
    gives_found ASN1Time time_at time_reading time_view c.args.bytes.now c.time_at_front.result
    (octets_below c.args.bytes.now (λ k. omega (arith, c.type_inv.bytes k))) c.time_at_front.ensures.exact

pub returns-clause-only : goal.returns-clause-only
returns-clause-only c =
    gives_only_whole ASN1Time time_at time_reading time_view c.args.bytes.now errors.InvalidDate c.time_at_front.result
    (octets_below c.args.bytes.now (λ k. omega (arith, c.type_inv.bytes k))) c.time_at_front.ensures.exact c.time_at_front.ensures.refused
