use Rattle.std.proofs.Common.{arith}
use Rattle.asn1_core.proofs.Numbers.{octets_below}
use Rattle.x509_core.proofs.Public.{gives_found, gives_only}
use Rattle.x509_ext_basic.specs.Leaves as grammar
use Rattle.x509_ext_basic.specs.Reading.{date_at}
use Rattle.x509_time.specs.View.{time_view}
use Rattle.x509_ext_basic.proofs.Laws.{date_reading}
use Rattle.x509_ext_basic.proofs.date.invalidity_date.Goals as goal

pub returns-clause-found : goal.returns-clause-found
returns-clause-found c =
    gives_found grammar.InvalidityDate date_at date_reading time_view c.args.i.now c.date_at_front.result
    (octets_below c.args.i.now (λ k. omega (arith, c.type_inv.i k))) c.date_at_front.ensures.exact

pub returns-clause-only : goal.returns-clause-only
returns-clause-only c =
    gives_only grammar.InvalidityDate date_at date_reading time_view c.args.i.now c.date_at_front.result
    (octets_below c.args.i.now (λ k. omega (arith, c.type_inv.i k))) c.date_at_front.ensures.exact
