use Rattle.std.proofs.Common.{arith}
use Rattle.asn1_core.proofs.Numbers.{octets_below}
use Rattle.x509_core.proofs.Public.{gives_found, gives_only}
use Rattle.x509_ext_sct.specs.Timestamps as grammar
use Rattle.x509_ext_sct.specs.Reading.{timestamp_at}
use Rattle.x509_ext_sct.specs.View.{timestamp_view}
use Rattle.x509_ext_sct.proofs.Laws.{timestamp_reading}
use Rattle.x509_ext_sct.proofs.timestamp.parse_ct_signed_certificate_timestamp.Goals as goal

pub returns-clause-found : goal.returns-clause-found
returns-clause-found c =
    gives_found grammar.Timestamp timestamp_at timestamp_reading timestamp_view c.args.i.now c.timestamp_at_front.result
    (octets_below c.args.i.now (λ k. omega (arith, c.type_inv.i k))) c.timestamp_at_front.ensures.read

pub returns-clause-only : goal.returns-clause-only
returns-clause-only c =
    gives_only grammar.Timestamp timestamp_at timestamp_reading timestamp_view c.args.i.now c.timestamp_at_front.result
    (octets_below c.args.i.now (λ k. omega (arith, c.type_inv.i k))) c.timestamp_at_front.ensures.read
