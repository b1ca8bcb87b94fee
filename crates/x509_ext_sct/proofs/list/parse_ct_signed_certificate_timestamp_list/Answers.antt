use Rattle.std.proofs.Common.{arith, map}
use Rattle.asn1_core.proofs.Numbers.{octets_below}
use Rattle.x509_core.proofs.Public.{gives_found, gives_only}
use Rattle.x509_ext_sct.specs.Timestamps as grammar
use Rattle.x509_ext_sct.specs.Reading.{list_at}
use Rattle.x509_ext_sct.specs.View.{timestamp_view}
use Rattle.x509_ext_sct.proofs.Laws.{list_reading}
use Rattle.x509_ext_sct.proofs.list.parse_ct_signed_certificate_timestamp_list.Goals as goal

pub returns-clause-found : goal.returns-clause-found
returns-clause-found c =
    gives_found grammar.TimestampList list_at list_reading (λ v. map timestamp_view v.items) c.args.i.now c.list_at_front.result
    (octets_below c.args.i.now (λ k. omega (arith, c.type_inv.i k))) c.list_at_front.ensures

pub returns-clause-only : goal.returns-clause-only
returns-clause-only c =
    gives_only grammar.TimestampList list_at list_reading (λ v. map timestamp_view v.items) c.args.i.now c.list_at_front.result
    (octets_below c.args.i.now (λ k. omega (arith, c.type_inv.i k))) c.list_at_front.ensures
