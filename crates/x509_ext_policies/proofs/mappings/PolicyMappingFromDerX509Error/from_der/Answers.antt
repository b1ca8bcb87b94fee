use Rattle.std.proofs.Common.{arith}
use Rattle.asn1_core.proofs.Numbers.{octets_below}
use Rattle.x509_core.proofs.Grammars.{next_reading}
use Rattle.x509_core.proofs.Public.{gives_found, gives_only}
use Rattle.x509_core.proofs.FrontLaws.{gives_reads}
use Rattle.x509_items.specs.Grammar.{HoldsSequence}
use Rattle.x509_ext_policies.specs.Policies as grammar
use Rattle.x509_ext_policies.specs.Reading.{mapping_in, mapping_at}
use Rattle.x509_ext_policies.specs.View.{mapping_view}
use Rattle.x509_ext_policies.proofs.Laws.{mapping_meaning}
use Rattle.x509_ext_policies.proofs.mappings.PolicyMappingFromDerX509Error.from_der.Goals as goal

pub returns-clause-reads : goal.returns-clause-reads
returns-clause-reads c =
    gives_reads (HoldsSequence grammar.MappingParts) (mapping_in) (mapping_meaning) mapping_view c.args.bytes.now c.mapping_at_front.result
    (octets_below c.args.bytes.now (λ k. omega (arith, c.type_inv.bytes k))) c.mapping_at_front.ensures.exact c.mapping_at_front.ensures.missing

pub returns-clause-found : goal.returns-clause-found
returns-clause-found c =
    gives_found grammar.PolicyMapping (mapping_at) (next_reading (HoldsSequence grammar.MappingParts) (mapping_in) (mapping_meaning)) mapping_view c.args.bytes.now c.mapping_at_front.result
    (octets_below c.args.bytes.now (λ k. omega (arith, c.type_inv.bytes k))) c.mapping_at_front.ensures.exact

pub returns-clause-only : goal.returns-clause-only
returns-clause-only c =
    gives_only grammar.PolicyMapping (mapping_at) (next_reading (HoldsSequence grammar.MappingParts) (mapping_in) (mapping_meaning)) mapping_view c.args.bytes.now c.mapping_at_front.result
    (octets_below c.args.bytes.now (λ k. omega (arith, c.type_inv.bytes k))) c.mapping_at_front.ensures.exact
