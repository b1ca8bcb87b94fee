use Rattle.std.proofs.Common.{arith}
use Rattle.asn1_core.proofs.Numbers.{octets_below}
use Rattle.x509_core.proofs.Grammars.{next_reading}
use Rattle.x509_core.proofs.Public.{gives_found, gives_only}
use Rattle.x509_ext_flags.proofs.PlainReads.{gives_reads_plainly}
use Rattle.x509_core.specs.Leaves.{IsOctets}
use Rattle.x509_ext_flags.specs.Extensions as grammar
use Rattle.x509_ext_flags.specs.Reading.{key_identifier_in, key_identifier_at}
use Rattle.x509_ext_flags.specs.View.{key_identifier_view}
use Rattle.x509_ext_flags.proofs.Laws.{key_identifier_meaning}
use Rattle.x509_ext_flags.proofs.identifier.KeyIdentifierFromDerX509Error.from_der.Goals as goal

pub returns-clause-reads : goal.returns-clause-reads
returns-clause-reads c =
    gives_reads_plainly (IsOctets) (key_identifier_in) (key_identifier_meaning) key_identifier_view c.args.bytes.now c.key_identifier_at_front.result
    (octets_below c.args.bytes.now (λ k. omega (arith, c.type_inv.bytes k))) c.key_identifier_at_front.ensures.exact c.key_identifier_at_front.ensures.missing c.key_identifier_at_front.ensures.memory

pub returns-clause-found : goal.returns-clause-found
returns-clause-found c =
    gives_found grammar.KeyIdentifier (key_identifier_at) (next_reading (IsOctets) (key_identifier_in) (key_identifier_meaning)) key_identifier_view c.args.bytes.now c.key_identifier_at_front.result
    (octets_below c.args.bytes.now (λ k. omega (arith, c.type_inv.bytes k))) c.key_identifier_at_front.ensures.exact

pub returns-clause-only : goal.returns-clause-only
returns-clause-only c =
    gives_only grammar.KeyIdentifier (key_identifier_at) (next_reading (IsOctets) (key_identifier_in) (key_identifier_meaning)) key_identifier_view c.args.bytes.now c.key_identifier_at_front.result
    (octets_below c.args.bytes.now (λ k. omega (arith, c.type_inv.bytes k))) c.key_identifier_at_front.ensures.exact
