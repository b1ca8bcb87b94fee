use Rattle.std.proofs.Common.{arith}
use Rattle.asn1_core.proofs.Numbers.{octets_below}
use Rattle.x509_core.specs.Grammar.{Holds}
use Rattle.x509_core.proofs.Grammars.{next_reading}
use Rattle.x509_core.proofs.Public.{gives_found, gives_only}
use Rattle.x509_names.specs.Names.{RelativeParts, RelativeDistinguishedName}
use Rattle.x509_names.specs.Reading.{relative_name_in, relative_name_at}
use Rattle.x509_names.specs.View.{set_view}
use Rattle.x509_core.proofs.FrontLaws.{gives_reads}
use Rattle.x509_names.proofs.NameLaws.{relative_meaning}
use Rattle.x509_names.proofs.relative.RelativeDistinguishedNameFromDerX509Error.from_der.Goals as goal

pub returns-clause-reads : goal.returns-clause-reads
returns-clause-reads c =
    gives_reads (Holds 17 RelativeParts) (λ q. relative_name_in q.element) relative_meaning set_view c.args.bytes.now c.relative_name_at_front.result
    (octets_below c.args.bytes.now (λ k. omega (arith, c.type_inv.bytes k))) c.relative_name_at_front.ensures.exact c.relative_name_at_front.ensures.missing

pub returns-clause-found : goal.returns-clause-found
returns-clause-found c =
    gives_found RelativeDistinguishedName relative_name_at (next_reading (Holds 17 RelativeParts) (λ q. relative_name_in q.element) relative_meaning) set_view c.args.bytes.now c.relative_name_at_front.result
    (octets_below c.args.bytes.now (λ k. omega (arith, c.type_inv.bytes k))) c.relative_name_at_front.ensures.exact

pub returns-clause-only : goal.returns-clause-only
returns-clause-only c =
    gives_only RelativeDistinguishedName relative_name_at (next_reading (Holds 17 RelativeParts) (λ q. relative_name_in q.element) relative_meaning) set_view c.args.bytes.now c.relative_name_at_front.result
    (octets_below c.args.bytes.now (λ k. omega (arith, c.type_inv.bytes k))) c.relative_name_at_front.ensures.exact
