use Rattle.std.proofs.Common.{arith}
use Rattle.asn1_core.proofs.Numbers.{octets_below}
use Rattle.x509_core.specs.Grammar.{Holds}
use Rattle.x509_core.proofs.Grammars.{next_reading}
use Rattle.x509_core.proofs.Public.{gives_found, gives_only}
use Rattle.x509_time.specs.Times.{ValidityParts, Validity}
use Rattle.x509_time.specs.Reading.{validity_in, validity_at}
use Rattle.x509_time.specs.View.{validity_view}
use Rattle.x509_core.proofs.FrontLaws.{gives_reads}
use Rattle.x509_time.proofs.TimeLaws.{validity_meaning}
use Rattle.x509_time.proofs.validity.ValidityFromDerX509Error.from_der.Goals as goal

pub returns-clause-reads : goal.returns-clause-reads
returns-clause-reads c =
    gives_reads (Holds 16 ValidityParts) (λ q. validity_in q.element) validity_meaning validity_view c.args.bytes.now c.validity_at_front.result
    (octets_below c.args.bytes.now (λ k. omega (arith, c.type_inv.bytes k))) c.validity_at_front.ensures.exact c.validity_at_front.ensures.missing

pub returns-clause-found : goal.returns-clause-found
returns-clause-found c =
    gives_found Validity validity_at (next_reading (Holds 16 ValidityParts) (λ q. validity_in q.element) validity_meaning) validity_view c.args.bytes.now c.validity_at_front.result
    (octets_below c.args.bytes.now (λ k. omega (arith, c.type_inv.bytes k))) c.validity_at_front.ensures.exact

pub returns-clause-only : goal.returns-clause-only
returns-clause-only c =
    gives_only Validity validity_at (next_reading (Holds 16 ValidityParts) (λ q. validity_in q.element) validity_meaning) validity_view c.args.bytes.now c.validity_at_front.result
    (octets_below c.args.bytes.now (λ k. omega (arith, c.type_inv.bytes k))) c.validity_at_front.ensures.exact
