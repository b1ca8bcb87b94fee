use Rattle.std.proofs.Common.{arith}
use Rattle.asn1_core.proofs.Numbers.{octets_below}
use Rattle.x509_core.specs.Grammar.{HoldsWhole}
use Rattle.x509_core.proofs.Grammars.{next_reading}
use Rattle.x509_core.proofs.Public.{gives_found, gives_only}
use Rattle.x509_names.proofs.FrontLaws.{gives_reads}
use Rattle.x509_ext.specs.Values.{IsParsed, deeply}
use Rattle.x509_ext.proofs.ExtensionLaws.{deep_law}
use Rattle.x509_lists.specs.Lists.{ListParts, CertificateRevocationList}
use Rattle.x509_lists.specs.Reading.{list_in, list_at}
use Rattle.x509_lists.specs.View.{list_view}
use Rattle.x509_lists.proofs.ListLaws.{list_meaning, list_window}
use Rattle.x509_lists.proofs.parser.CertificateRevocationListFromDerX509Error.from_der.Goals as goal

pub returns-clause-reads : goal.returns-clause-reads
returns-clause-reads c =
    gives_reads (HoldsWhole 16 (ListParts IsParsed) (λ l. l.raw)) (list_in deeply) (list_meaning IsParsed deeply deep_law) list_view c.args.bytes.now c.list_at_front.result
    (octets_below c.args.bytes.now (λ k. omega (arith, c.type_inv.bytes k))) c.list_at_front.ensures.exact c.list_at_front.ensures.missing

pub returns-clause-window : goal.returns-clause-window
returns-clause-window c =
    list_window IsParsed c.args.bytes.now c.list_at_front.result
    (gives_found (CertificateRevocationList IsParsed) (list_at deeply) (next_reading (HoldsWhole 16 (ListParts IsParsed) (λ l. l.raw)) (list_in deeply) (list_meaning IsParsed deeply deep_law)) list_view c.args.bytes.now c.list_at_front.result
    (octets_below c.args.bytes.now (λ k. omega (arith, c.type_inv.bytes k))) c.list_at_front.ensures.exact)

pub returns-clause-found : goal.returns-clause-found
returns-clause-found c =
    gives_found (CertificateRevocationList IsParsed) (list_at deeply) (next_reading (HoldsWhole 16 (ListParts IsParsed) (λ l. l.raw)) (list_in deeply) (list_meaning IsParsed deeply deep_law)) list_view c.args.bytes.now c.list_at_front.result
    (octets_below c.args.bytes.now (λ k. omega (arith, c.type_inv.bytes k))) c.list_at_front.ensures.exact

pub returns-clause-only : goal.returns-clause-only
returns-clause-only c =
    gives_only (CertificateRevocationList IsParsed) (list_at deeply) (next_reading (HoldsWhole 16 (ListParts IsParsed) (λ l. l.raw)) (list_in deeply) (list_meaning IsParsed deeply deep_law)) list_view c.args.bytes.now c.list_at_front.result
    (octets_below c.args.bytes.now (λ k. omega (arith, c.type_inv.bytes k))) c.list_at_front.ensures.exact
