use Rattle.std.proofs.Common.{arith}
use Rattle.asn1_core.proofs.Numbers.{octets_below}
use Rattle.x509_core.proofs.Grammars.{next_reading}
use Rattle.x509_core.proofs.Public.{gives_found, gives_only}
use Rattle.x509_core.proofs.FrontLaws.{gives_reads}
use Rattle.x509_core.specs.Grammar.{Holds, ToEnd}
use Rattle.x509_ext_names.specs.Extensions as grammar
use Rattle.x509_ext_names.specs.Names.{GeneralName}
use Rattle.x509_ext_names.specs.Reading.{alternative_in, alternative_at}
use Rattle.x509_ext_names.specs.View.{subject_names_view}
use Rattle.x509_ext_names.proofs.Laws.{alternative_meaning}
use Rattle.x509_ext_names.proofs.alternative.SubjectAlternativeNameFromDerX509Error.from_der.Goals as goal

pub returns-clause-reads : goal.returns-clause-reads
returns-clause-reads c =
    gives_reads (Holds 16 (ToEnd GeneralName)) (alternative_in) (alternative_meaning) subject_names_view c.args.bytes.now c.subject_names_at_front.result
    (octets_below c.args.bytes.now (λ k. omega (arith, c.type_inv.bytes k))) c.subject_names_at_front.ensures.exact c.subject_names_at_front.ensures.missing

pub returns-clause-found : goal.returns-clause-found
returns-clause-found c =
    gives_found grammar.AlternativeName (alternative_at) (next_reading (Holds 16 (ToEnd GeneralName)) (alternative_in) (alternative_meaning)) subject_names_view c.args.bytes.now c.subject_names_at_front.result
    (octets_below c.args.bytes.now (λ k. omega (arith, c.type_inv.bytes k))) c.subject_names_at_front.ensures.exact

pub returns-clause-only : goal.returns-clause-only
returns-clause-only c =
    gives_only grammar.AlternativeName (alternative_at) (next_reading (Holds 16 (ToEnd GeneralName)) (alternative_in) (alternative_meaning)) subject_names_view c.args.bytes.now c.subject_names_at_front.result
    (octets_below c.args.bytes.now (λ k. omega (arith, c.type_inv.bytes k))) c.subject_names_at_front.ensures.exact
