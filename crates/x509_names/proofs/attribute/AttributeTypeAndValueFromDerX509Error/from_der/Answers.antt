use Rattle.std.proofs.Common.{arith}
use Rattle.asn1_core.proofs.Numbers.{octets_below}
use Rattle.x509_core.specs.Grammar.{Holds}
use Rattle.x509_core.proofs.Grammars.{next_reading}
use Rattle.x509_core.proofs.Public.{gives_found, gives_only}
use Rattle.x509_names.specs.Names.{AttributeParts, AttributeTypeAndValue}
use Rattle.x509_names.specs.Reading.{attribute_in, attribute_at}
use Rattle.x509_names.specs.View.{attribute_view}
use Rattle.x509_core.proofs.FrontLaws.{gives_reads}
use Rattle.x509_names.proofs.NameLaws.{attribute_meaning}
use Rattle.x509_names.proofs.attribute.AttributeTypeAndValueFromDerX509Error.from_der.Goals as goal

pub returns-clause-reads : goal.returns-clause-reads
returns-clause-reads c =
    gives_reads (Holds 16 AttributeParts) (λ q. attribute_in q.element) attribute_meaning attribute_view c.args.bytes.now c.attribute_at_front.result
    (octets_below c.args.bytes.now (λ k. omega (arith, c.type_inv.bytes k))) c.attribute_at_front.ensures.exact c.attribute_at_front.ensures.missing

pub returns-clause-found : goal.returns-clause-found
returns-clause-found c =
    gives_found AttributeTypeAndValue attribute_at (next_reading (Holds 16 AttributeParts) (λ q. attribute_in q.element) attribute_meaning) attribute_view c.args.bytes.now c.attribute_at_front.result
    (octets_below c.args.bytes.now (λ k. omega (arith, c.type_inv.bytes k))) c.attribute_at_front.ensures.exact

pub returns-clause-only : goal.returns-clause-only
returns-clause-only c =
    gives_only AttributeTypeAndValue attribute_at (next_reading (Holds 16 AttributeParts) (λ q. attribute_in q.element) attribute_meaning) attribute_view c.args.bytes.now c.attribute_at_front.result
    (octets_below c.args.bytes.now (λ k. omega (arith, c.type_inv.bytes k))) c.attribute_at_front.ensures.exact
