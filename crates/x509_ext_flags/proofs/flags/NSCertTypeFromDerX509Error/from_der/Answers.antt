use Rattle.std.proofs.Common.{arith}
use Rattle.asn1_core.proofs.Numbers.{octets_below}
use Rattle.x509_core.proofs.Grammars.{next_reading}
use Rattle.x509_core.proofs.Public.{gives_found, gives_only}
use Rattle.x509_ext_flags.proofs.PlainReads.{gives_reads_plainly}
use Rattle.x509_core.specs.Leaves.{Leaf}
use Rattle.x509_ext_flags.specs.Extensions as grammar
use Rattle.x509_ext_flags.specs.Flags.{AreEight}
use Rattle.x509_ext_flags.specs.Reading.{netscape_in, netscape_at}
use Rattle.x509_ext_flags.specs.View.{netscape_view}
use Rattle.x509_ext_flags.proofs.Laws.{netscape_meaning}
use Rattle.x509_ext_flags.proofs.flags.NSCertTypeFromDerX509Error.from_der.Goals as goal

pub returns-clause-reads : goal.returns-clause-reads
returns-clause-reads c =
    gives_reads_plainly (Leaf 3 AreEight) (netscape_in) (netscape_meaning) netscape_view c.args.bytes.now c.netscape_at_front.result
    (octets_below c.args.bytes.now (λ k. omega (arith, c.type_inv.bytes k))) c.netscape_at_front.ensures.exact c.netscape_at_front.ensures.missing c.netscape_at_front.ensures.memory

pub returns-clause-found : goal.returns-clause-found
returns-clause-found c =
    gives_found grammar.NetscapeType (netscape_at) (next_reading (Leaf 3 AreEight) (netscape_in) (netscape_meaning)) netscape_view c.args.bytes.now c.netscape_at_front.result
    (octets_below c.args.bytes.now (λ k. omega (arith, c.type_inv.bytes k))) c.netscape_at_front.ensures.exact

pub returns-clause-only : goal.returns-clause-only
returns-clause-only c =
    gives_only grammar.NetscapeType (netscape_at) (next_reading (Leaf 3 AreEight) (netscape_in) (netscape_meaning)) netscape_view c.args.bytes.now c.netscape_at_front.result
    (octets_below c.args.bytes.now (λ k. omega (arith, c.type_inv.bytes k))) c.netscape_at_front.ensures.exact
