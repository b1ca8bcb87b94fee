use Rattle.std.proofs.Common.{arith}
use Rattle.asn1_core.proofs.Numbers.{octets_below}
use Rattle.x509_core.specs.Grammar.{HoldsWindow}
use Rattle.x509_core.proofs.Grammars.{next_reading}
use Rattle.x509_core.proofs.Public.{gives_found, gives_only}
use Rattle.x509_names.specs.Names.{NameParts, X509Name}
use Rattle.x509_names.specs.Reading.{name_in, name_at}
use Rattle.x509_names.specs.View.{name_view}
use Rattle.x509_core.proofs.FrontLaws.{gives_reads, gives_window}
use Rattle.x509_names.proofs.NameLaws.{name_meaning}
use Rattle.x509_names.proofs.name.X509NameFromDerX509Error.from_der.Goals as goal

pub returns-clause-reads : goal.returns-clause-reads
returns-clause-reads c =
    gives_reads (HoldsWindow 16 NameParts (λ n. n.raw)) name_in name_meaning name_view c.args.bytes.now c.name_at_front.result
    (octets_below c.args.bytes.now (λ k. omega (arith, c.type_inv.bytes k))) c.name_at_front.ensures.exact c.name_at_front.ensures.missing

pub returns-clause-found : goal.returns-clause-found
returns-clause-found c =
    gives_found X509Name name_at (next_reading (HoldsWindow 16 NameParts (λ n. n.raw)) name_in name_meaning) name_view c.args.bytes.now c.name_at_front.result
    (octets_below c.args.bytes.now (λ k. omega (arith, c.type_inv.bytes k))) c.name_at_front.ensures.exact

pub returns-clause-only : goal.returns-clause-only
returns-clause-only c =
    gives_only X509Name name_at (next_reading (HoldsWindow 16 NameParts (λ n. n.raw)) name_in name_meaning) name_view c.args.bytes.now c.name_at_front.result
    (octets_below c.args.bytes.now (λ k. omega (arith, c.type_inv.bytes k))) c.name_at_front.ensures.exact

pub returns-clause-window : goal.returns-clause-window
returns-clause-window c =
    gives_window 16 NameParts (λ n. n.raw) name_view c.args.bytes.now c.name_at_front.result
    (
    gives_found X509Name name_at (next_reading (HoldsWindow 16 NameParts (λ n. n.raw)) name_in name_meaning) name_view c.args.bytes.now c.name_at_front.result
    (octets_below c.args.bytes.now (λ k. omega (arith, c.type_inv.bytes k))) c.name_at_front.ensures.exact
    )
