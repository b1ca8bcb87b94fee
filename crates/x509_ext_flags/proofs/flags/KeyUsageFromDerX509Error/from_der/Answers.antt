use Rattle.std.proofs.Common.{arith}
use Rattle.asn1_core.proofs.Numbers.{octets_below}
use Rattle.x509_core.proofs.Grammars.{next_reading}
use Rattle.x509_core.proofs.Public.{gives_found, gives_only}
use Rattle.x509_ext_flags.proofs.PlainReads.{gives_reads_plainly}
use Rattle.x509_core.specs.Leaves.{Leaf}
use Rattle.x509_ext_flags.specs.Extensions as grammar
use Rattle.x509_ext_flags.specs.Flags.{AreSixteen}
use Rattle.x509_ext_flags.specs.Reading.{sixteen_in, usage_at}
use Rattle.x509_ext_flags.specs.View.{usage_view}
use Rattle.x509_ext_flags.proofs.Laws.{usage_meaning}
use Rattle.x509_ext_flags.proofs.flags.KeyUsageFromDerX509Error.from_der.Goals as goal

pub returns-clause-reads : goal.returns-clause-reads
returns-clause-reads c =
    gives_reads_plainly (Leaf 3 AreSixteen) (sixteen_in 3) (usage_meaning) usage_view c.args.bytes.now c.usage_at_front.result
    (octets_below c.args.bytes.now (λ k. omega (arith, c.type_inv.bytes k))) c.usage_at_front.ensures.exact c.usage_at_front.ensures.missing c.usage_at_front.ensures.memory

pub returns-clause-found : goal.returns-clause-found
returns-clause-found c =
    gives_found grammar.KeyUsage (usage_at) (next_reading (Leaf 3 AreSixteen) (sixteen_in 3) (usage_meaning)) usage_view c.args.bytes.now c.usage_at_front.result
    (octets_below c.args.bytes.now (λ k. omega (arith, c.type_inv.bytes k))) c.usage_at_front.ensures.exact

pub returns-clause-only : goal.returns-clause-only
returns-clause-only c =
    gives_only grammar.KeyUsage (usage_at) (next_reading (Leaf 3 AreSixteen) (sixteen_in 3) (usage_meaning)) usage_view c.args.bytes.now c.usage_at_front.result
    (octets_below c.args.bytes.now (λ k. omega (arith, c.type_inv.bytes k))) c.usage_at_front.ensures.exact
