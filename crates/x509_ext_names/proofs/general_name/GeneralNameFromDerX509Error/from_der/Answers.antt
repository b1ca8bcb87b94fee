use Rattle.std.proofs.Common.{arith}
use Rattle.asn1_core.proofs.Numbers.{octets_below}
use Rattle.x509_core.proofs.Grammars.{next_reading}
use Rattle.x509_core.proofs.Public.{gives_found, gives_only}
use Rattle.x509_core.proofs.FrontLaws.{gives_reads}
use Rattle.x509_ext_names.specs.Names.{IsGeneralName, GeneralName}
use Rattle.x509_ext_names.specs.Names as grammar
use Rattle.x509_ext_names.specs.Reading.{general_name_in, general_name_at}
use Rattle.x509_ext_names.specs.View.{general_name_view}
use Rattle.x509_ext_names.proofs.NameLaws.{general_name_meaning}
use Rattle.x509_ext_names.proofs.general_name.GeneralNameFromDerX509Error.from_der.Goals as goal

pub returns-clause-reads : goal.returns-clause-reads
returns-clause-reads c =
    gives_reads (IsGeneralName) (general_name_in) (general_name_meaning) general_name_view c.args.bytes.now c.general_name_at_front.result
    (octets_below c.args.bytes.now (λ k. omega (arith, c.type_inv.bytes k))) c.general_name_at_front.ensures.exact c.general_name_at_front.ensures.missing

pub returns-clause-found : goal.returns-clause-found
returns-clause-found c =
    gives_found grammar.GeneralName (general_name_at) (next_reading (IsGeneralName) (general_name_in) (general_name_meaning)) general_name_view c.args.bytes.now c.general_name_at_front.result
    (octets_below c.args.bytes.now (λ k. omega (arith, c.type_inv.bytes k))) c.general_name_at_front.ensures.exact

pub returns-clause-only : goal.returns-clause-only
returns-clause-only c =
    gives_only grammar.GeneralName (general_name_at) (next_reading (IsGeneralName) (general_name_in) (general_name_meaning)) general_name_view c.args.bytes.now c.general_name_at_front.result
    (octets_below c.args.bytes.now (λ k. omega (arith, c.type_inv.bytes k))) c.general_name_at_front.ensures.exact
