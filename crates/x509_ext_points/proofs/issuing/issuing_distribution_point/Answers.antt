use Rattle.std.proofs.Common.{arith}
use Rattle.asn1_core.proofs.Numbers.{octets_below}
use Rattle.x509_core.proofs.Public.{gives_found, gives_only}
use Rattle.x509_ext_points.specs.Points as grammar
use Rattle.x509_ext_points.specs.Reading.{issuing_at}
use Rattle.x509_ext_points.specs.View.{issuing_point_view}
use Rattle.x509_ext_points.proofs.Laws.{issuing_reading}
use Rattle.x509_ext_points.proofs.issuing.issuing_distribution_point.Goals as goal

pub returns-clause-found : goal.returns-clause-found
returns-clause-found c =
    gives_found grammar.IssuingDistributionPoint issuing_at issuing_reading issuing_point_view c.args.i.now c.issuing_at_front.result
    (octets_below c.args.i.now (λ k. omega (arith, c.type_inv.i k))) c.issuing_at_front.ensures.read

pub returns-clause-only : goal.returns-clause-only
returns-clause-only c =
    gives_only grammar.IssuingDistributionPoint issuing_at issuing_reading issuing_point_view c.args.i.now c.issuing_at_front.result
    (octets_below c.args.i.now (λ k. omega (arith, c.type_inv.i k))) c.issuing_at_front.ensures.read
