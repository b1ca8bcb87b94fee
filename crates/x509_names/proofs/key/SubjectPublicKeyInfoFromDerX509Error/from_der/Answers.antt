use Rattle.std.proofs.Common.{arith}
use Rattle.asn1_core.proofs.Numbers.{octets_below}
use Rattle.x509_core.specs.Grammar.{HoldsWindow}
use Rattle.x509_core.proofs.Grammars.{next_reading}
use Rattle.x509_core.proofs.Public.{gives_found, gives_only}
use Rattle.x509_names.specs.Names.{KeyParts, SubjectPublicKeyInfo}
use Rattle.x509_names.specs.Reading.{key_in, key_at}
use Rattle.x509_names.specs.View.{key_view}
use Rattle.x509_core.proofs.FrontLaws.{gives_reads, gives_window}
use Rattle.x509_names.proofs.KeyLaws.{key_meaning}
use Rattle.x509_names.proofs.key.SubjectPublicKeyInfoFromDerX509Error.from_der.Goals as goal

pub returns-clause-reads : goal.returns-clause-reads
returns-clause-reads c =
    gives_reads (HoldsWindow 16 KeyParts (λ k. k.raw)) key_in key_meaning key_view c.args.bytes.now c.key_at_front.result
    (octets_below c.args.bytes.now (λ k. omega (arith, c.type_inv.bytes k))) c.key_at_front.ensures.exact c.key_at_front.ensures.missing

pub returns-clause-found : goal.returns-clause-found
returns-clause-found c =
    gives_found SubjectPublicKeyInfo key_at (next_reading (HoldsWindow 16 KeyParts (λ k. k.raw)) key_in key_meaning) key_view c.args.bytes.now c.key_at_front.result
    (octets_below c.args.bytes.now (λ k. omega (arith, c.type_inv.bytes k))) c.key_at_front.ensures.exact

pub returns-clause-only : goal.returns-clause-only
returns-clause-only c =
    gives_only SubjectPublicKeyInfo key_at (next_reading (HoldsWindow 16 KeyParts (λ k. k.raw)) key_in key_meaning) key_view c.args.bytes.now c.key_at_front.result
    (octets_below c.args.bytes.now (λ k. omega (arith, c.type_inv.bytes k))) c.key_at_front.ensures.exact

pub returns-clause-window : goal.returns-clause-window
returns-clause-window c =
    gives_window 16 KeyParts (λ k. k.raw) key_view c.args.bytes.now c.key_at_front.result
    (
    gives_found SubjectPublicKeyInfo key_at (next_reading (HoldsWindow 16 KeyParts (λ k. k.raw)) key_in key_meaning) key_view c.args.bytes.now c.key_at_front.result
    (octets_below c.args.bytes.now (λ k. omega (arith, c.type_inv.bytes k))) c.key_at_front.ensures.exact
    )
