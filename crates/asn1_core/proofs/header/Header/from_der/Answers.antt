use Rattle.std.proofs.Common.{◌+◌, ◌≤◌, length, ◌≡◌, ℕ, List, ◌++◌, ap, ◌∙◌, arith}
use Rattle.asn1_core.specs.Strict.{IsHead}
use Rattle.asn1_core.specs.Lenient.{SpellsHeader}
use Rattle.asn1_core.specs.Missing.{HasHeader, IsMissing}
use Rattle.asn1_core.specs.Answers.{TakesNoMemory}
use Rattle.asn1_core.specs.Reading.{header_at}
use Rattle.asn1_core.specs.Views.{head_of}
use Rattle.asn1_core.proofs.Numbers.{octets_below}
use Rattle.asn1_core.proofs.Gives.{gives_found, gives_only, gives_refused}
use Rattle.asn1_core.proofs.Headers.{header_found, header_again}
use Rattle.asn1_core.proofs.Long.{shortens}
use Rattle.asn1_core.proofs.Refusals.{header_refused, header_missing, no_memory}
use Rattle.asn1_core.proofs.header.Header.from_der.Goals as goal

pub returns-clause-found : goal.returns-clause-found
returns-clause-found c =
    let octets = c.args.i.now in
    let below = octets_below octets (λ k. omega (arith, c.type_inv.i k)) in
    gives_found (λ r. (head_of r.1, r.0.now)) c.definite_header.result (header_at octets)
    (λ y. IsHead y.0 × ((front : List ℕ) × SpellsHeader front y.0 × (octets ≡ front ++ y.1)))
    c.definite_header.ensures.exact
    (λ y read. let found = header_found octets y.0 y.1 below read in (found.head, (found.front, found.spells, found.whole)))

pub returns-clause-only : goal.returns-clause-only
returns-clause-only c = λ front rest h head spells whole.
    let read = ap header_at whole ∙ header_again front h rest head spells in
    let given = c.definite_header.ensures.exact in
    gives_only (λ r. head_of r.1) (λ r. r.0.now) c.definite_header.result h rest (rw read at given)

pub returns-clause-missing : goal.returns-clause-missing
returns-clause-missing c =
    let octets = c.args.i.now in
    let below = octets_below octets (λ k. omega (arith, c.type_inv.i k)) in
    gives_refused (λ r. (head_of r.1, r.0.now)) c.definite_header.result (header_at octets) (IsMissing HasHeader octets) c.definite_header.ensures.exact
    (λ e read. header_missing octets e (header_refused octets e below read))

pub returns-clause-memory : goal.returns-clause-memory
returns-clause-memory c =
    let octets = c.args.i.now in
    let below = octets_below octets (λ k. omega (arith, c.type_inv.i k)) in
    gives_refused (λ r. (head_of r.1, r.0.now)) c.definite_header.result (header_at octets) TakesNoMemory c.definite_header.ensures.exact
    (λ e read. no_memory header_at octets e (header_refused octets e below read))

pub returns-clause-shorter : goal.returns-clause-shorter
returns-clause-shorter c =
    let octets = c.args.i.now in
    let below = octets_below octets (λ k. omega (arith, c.type_inv.i k)) in
    gives_found (λ r. (head_of r.1, r.0.now)) c.definite_header.result (header_at octets) (λ y. length y.1 + 2 ≤ length octets)
    c.definite_header.ensures.exact
    (λ y read. shortens octets y.1 y.0 (header_found octets y.0 y.1 below read))
