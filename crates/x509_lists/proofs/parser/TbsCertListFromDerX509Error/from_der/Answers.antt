use Rattle.std.proofs.Common.{arith}
use Rattle.asn1_core.proofs.Numbers.{octets_below}
use Rattle.x509_core.specs.Grammar.{HoldsWindow}
use Rattle.x509_core.proofs.Grammars.{next_reading}
use Rattle.x509_core.proofs.Public.{gives_found, gives_only}
use Rattle.x509_names.proofs.FrontLaws.{gives_reads}
use Rattle.x509_ext.specs.Values.{IsParsed, deeply}
use Rattle.x509_ext.proofs.ExtensionLaws.{deep_law}
use Rattle.x509_lists.specs.Lists.{TbsParts, TbsCertList}
use Rattle.x509_lists.specs.Reading.{tbs_in, tbs_at}
use Rattle.x509_lists.specs.View.{tbs_view}
use Rattle.x509_lists.proofs.ListLaws.{tbs_meaning, tbs_window}
use Rattle.x509_lists.proofs.parser.TbsCertListFromDerX509Error.from_der.Goals as goal

pub returns-clause-reads : goal.returns-clause-reads
returns-clause-reads c =
    gives_reads (HoldsWindow 16 (TbsParts IsParsed) (λ t. t.raw)) (tbs_in deeply) (tbs_meaning IsParsed deeply deep_law) tbs_view c.args.bytes.now c.tbs_at_front.result
    (octets_below c.args.bytes.now (λ k. omega (arith, c.type_inv.bytes k))) c.tbs_at_front.ensures.exact c.tbs_at_front.ensures.missing

pub returns-clause-window : goal.returns-clause-window
returns-clause-window c =
    tbs_window IsParsed c.args.bytes.now c.tbs_at_front.result
    (gives_found (TbsCertList IsParsed) (tbs_at deeply) (next_reading (HoldsWindow 16 (TbsParts IsParsed) (λ t. t.raw)) (tbs_in deeply) (tbs_meaning IsParsed deeply deep_law)) tbs_view c.args.bytes.now c.tbs_at_front.result
    (octets_below c.args.bytes.now (λ k. omega (arith, c.type_inv.bytes k))) c.tbs_at_front.ensures.exact)

pub returns-clause-found : goal.returns-clause-found
returns-clause-found c =
    gives_found (TbsCertList IsParsed) (tbs_at deeply) (next_reading (HoldsWindow 16 (TbsParts IsParsed) (λ t. t.raw)) (tbs_in deeply) (tbs_meaning IsParsed deeply deep_law)) tbs_view c.args.bytes.now c.tbs_at_front.result
    (octets_below c.args.bytes.now (λ k. omega (arith, c.type_inv.bytes k))) c.tbs_at_front.ensures.exact

pub returns-clause-only : goal.returns-clause-only
returns-clause-only c =
    gives_only (TbsCertList IsParsed) (tbs_at deeply) (next_reading (HoldsWindow 16 (TbsParts IsParsed) (λ t. t.raw)) (tbs_in deeply) (tbs_meaning IsParsed deeply deep_law)) tbs_view c.args.bytes.now c.tbs_at_front.result
    (octets_below c.args.bytes.now (λ k. omega (arith, c.type_inv.bytes k))) c.tbs_at_front.ensures.exact
