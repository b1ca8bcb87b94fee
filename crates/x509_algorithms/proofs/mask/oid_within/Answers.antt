use Rattle.std.proofs.Common.{arith, ℕ, List}
use Rattle.asn1_core.proofs.Numbers.{octets_below}
use Rattle.x509_core.specs.Grammar.{One}
use Rattle.x509_core.specs.Leaves.{IsOid}
use Rattle.x509_core.specs.Reading.{oid_in}
use Rattle.x509_core.proofs.Grammars.{next_reading}
use Rattle.x509_core.proofs.LeafLaws.{oid_meaning}
use Rattle.x509_core.proofs.Public.{gives_found, gives_only}
use Rattle.x509_items.specs.Reading.{oid_at}
use Rattle.x509_algorithms.proofs.mask.oid_within.Goals as goal

pub returns-clause-found : goal.returns-clause-found
returns-clause-found c =
    gives_found (One IsOid) oid_at (next_reading IsOid (λ p. oid_in p.element) oid_meaning) (λ (v : List ℕ). v) c.args.content.now c.first_oid.result
    (octets_below c.args.content.now (λ k. omega (arith, c.type_inv.content k))) c.first_oid.ensures.read

pub returns-clause-only : goal.returns-clause-only
returns-clause-only c =
    gives_only (One IsOid) oid_at (next_reading IsOid (λ p. oid_in p.element) oid_meaning) (λ (v : List ℕ). v) c.args.content.now c.first_oid.result
    (octets_below c.args.content.now (λ k. omega (arith, c.type_inv.content k))) c.first_oid.ensures.read
