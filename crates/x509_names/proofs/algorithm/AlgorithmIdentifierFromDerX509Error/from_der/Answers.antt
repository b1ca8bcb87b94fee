use Rattle.std.proofs.Common.{arith}
use Rattle.asn1_core.proofs.Numbers.{octets_below}
use Rattle.x509_core.specs.Grammar.{Holds}
use Rattle.x509_core.proofs.Grammars.{next_reading}
use Rattle.x509_core.proofs.Public.{gives_found, gives_only}
use Rattle.x509_names.specs.Names.{AlgorithmParts, AlgorithmIdentifier}
use Rattle.x509_names.specs.Reading.{algorithm_in, algorithm_at}
use Rattle.x509_names.specs.View.{algorithm_view}
use Rattle.x509_core.proofs.FrontLaws.{gives_reads}
use Rattle.x509_names.proofs.NameLaws.{algorithm_meaning}
use Rattle.x509_names.proofs.algorithm.AlgorithmIdentifierFromDerX509Error.from_der.Goals as goal

pub returns-clause-reads : goal.returns-clause-reads
returns-clause-reads c =
    gives_reads (Holds 16 AlgorithmParts) (λ q. algorithm_in q.element) algorithm_meaning algorithm_view c.args.bytes.now c.algorithm_at_front.result
    (octets_below c.args.bytes.now (λ k. omega (arith, c.type_inv.bytes k))) c.algorithm_at_front.ensures.exact c.algorithm_at_front.ensures.missing

pub returns-clause-found : goal.returns-clause-found
returns-clause-found c =
    gives_found AlgorithmIdentifier algorithm_at (next_reading (Holds 16 AlgorithmParts) (λ q. algorithm_in q.element) algorithm_meaning) algorithm_view c.args.bytes.now c.algorithm_at_front.result
    (octets_below c.args.bytes.now (λ k. omega (arith, c.type_inv.bytes k))) c.algorithm_at_front.ensures.exact

pub returns-clause-only : goal.returns-clause-only
returns-clause-only c =
    gives_only AlgorithmIdentifier algorithm_at (next_reading (Holds 16 AlgorithmParts) (λ q. algorithm_in q.element) algorithm_meaning) algorithm_view c.args.bytes.now c.algorithm_at_front.result
    (octets_below c.args.bytes.now (λ k. omega (arith, c.type_inv.bytes k))) c.algorithm_at_front.ensures.exact
