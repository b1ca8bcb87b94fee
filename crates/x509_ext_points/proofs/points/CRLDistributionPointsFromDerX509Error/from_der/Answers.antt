use Rattle.std.proofs.Common.{arith}
use Rattle.asn1_core.proofs.Numbers.{octets_below}
use Rattle.x509_core.proofs.Grammars.{next_reading}
use Rattle.x509_core.proofs.Public.{gives_found, gives_only}
use Rattle.x509_core.proofs.FrontLaws.{gives_reads}
use Rattle.x509_core.specs.Grammar.{Holds, ToEnd}
use Rattle.x509_ext_points.specs.Points as grammar
use Rattle.x509_ext_points.specs.Reading.{points_in, points_at}
use Rattle.x509_ext_points.specs.View.{points_view}
use Rattle.x509_ext_points.proofs.Laws.{points_meaning}
use Rattle.x509_ext_points.proofs.points.CRLDistributionPointsFromDerX509Error.from_der.Goals as goal

pub returns-clause-reads : goal.returns-clause-reads
returns-clause-reads c =
    gives_reads (Holds 16 (ToEnd grammar.DistributionPoint)) (points_in) (points_meaning) points_view c.args.bytes.now c.points_at_front.result
    (octets_below c.args.bytes.now (λ k. omega (arith, c.type_inv.bytes k))) c.points_at_front.ensures.exact c.points_at_front.ensures.missing

pub returns-clause-found : goal.returns-clause-found
returns-clause-found c =
    gives_found grammar.CRLDistributionPoints (points_at) (next_reading (Holds 16 (ToEnd grammar.DistributionPoint)) (points_in) (points_meaning)) points_view c.args.bytes.now c.points_at_front.result
    (octets_below c.args.bytes.now (λ k. omega (arith, c.type_inv.bytes k))) c.points_at_front.ensures.exact

pub returns-clause-only : goal.returns-clause-only
returns-clause-only c =
    gives_only grammar.CRLDistributionPoints (points_at) (next_reading (Holds 16 (ToEnd grammar.DistributionPoint)) (points_in) (points_meaning)) points_view c.args.bytes.now c.points_at_front.result
    (octets_below c.args.bytes.now (λ k. omega (arith, c.type_inv.bytes k))) c.points_at_front.ensures.exact
