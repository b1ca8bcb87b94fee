use Rattle.std.proofs.Common.{arith}
use Rattle.asn1_core.proofs.Numbers.{octets_below}
use Rattle.x509_core.proofs.Public.{gives_found, gives_only}
use Rattle.x509_ext_basic.specs.Leaves as grammar
use Rattle.x509_ext_basic.specs.Reading.{number_at}
use Rattle.asn1_unsigned.specs.Numbers.{number_of}
use Rattle.x509_ext_basic.proofs.Laws.{number_reading}
use Rattle.x509_ext_basic.proofs.number.crl_number.Goals as goal

pub returns-clause-found : goal.returns-clause-found
returns-clause-found c =
    gives_found grammar.CRLNumber number_at number_reading number_of c.args.i.now c.number_at_front.result
    (octets_below c.args.i.now (λ k. omega (arith, c.type_inv.i k))) c.number_at_front.ensures.exact

pub returns-clause-only : goal.returns-clause-only
returns-clause-only c =
    gives_only grammar.CRLNumber number_at number_reading number_of c.args.i.now c.number_at_front.result
    (octets_below c.args.i.now (λ k. omega (arith, c.type_inv.i k))) c.number_at_front.ensures.exact
