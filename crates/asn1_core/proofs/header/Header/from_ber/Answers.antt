use Rattle.std.proofs.Common.{◌+◌, ◌≤◌, length, ◌≡◌, ℕ, List, ◌++◌, ap, ◌∙◌, arith}
use Rattle.asn1_core.specs.Lenient.{IsBerHead, SpellsBerHeader}
use Rattle.asn1_core.specs.Missing.{HasBerHeader, IsMissing}
use Rattle.asn1_core.specs.Answers.{TakesNoMemory}
use Rattle.asn1_core.specs.Reading.{ber_header_at}
use Rattle.asn1_core.specs.Views.{ber_head_of}
use Rattle.asn1_core.proofs.Numbers.{octets_below}
use Rattle.asn1_core.proofs.Gives.{gives_found, gives_only, gives_refused}
use Rattle.asn1_core.proofs.Headers.{ber_header_found, ber_header_again}
use Rattle.asn1_core.proofs.Long.{ber_shortens}
use Rattle.asn1_core.proofs.Refusals.{ber_header_refused, ber_header_missing, no_memory}
use Rattle.asn1_core.proofs.header.Header.from_ber.Goals as goal

pub returns-clause-found : goal.returns-clause-found
returns-clause-found c =
    let octets = c.args.i.now in
    let below = octets_below octets (λ k. omega (arith, c.type_inv.i k)) in
    gives_found (λ r. (ber_head_of r.1, r.0.now)) c.ber_header.result (ber_header_at octets)
    (λ y. IsBerHead y.0 × ((front : List ℕ) × SpellsBerHeader front y.0 × (octets ≡ front ++ y.1)))
    c.ber_header.ensures
    (λ y read. let found = ber_header_found octets y.0 y.1 below read in (found.head, (found.front, found.spells, found.whole)))

pub returns-clause-only : goal.returns-clause-only
returns-clause-only c = λ front rest h head spells whole.
    let read = ap ber_header_at whole ∙ ber_header_again front h rest head spells in
    let given = c.ber_header.ensures in
    gives_only (λ r. ber_head_of r.1) (λ r. r.0.now) c.ber_header.result h rest (rw read at given)

pub returns-clause-missing : goal.returns-clause-missing
returns-clause-missing c =
    let octets = c.args.i.now in
    let below = octets_below octets (λ k. omega (arith, c.type_inv.i k)) in
    gives_refused (λ r. (ber_head_of r.1, r.0.now)) c.ber_header.result (ber_header_at octets) (IsMissing HasBerHeader octets) c.ber_header.ensures
    (λ e read. ber_header_missing octets e (ber_header_refused octets e below read))

pub returns-clause-memory : goal.returns-clause-memory
returns-clause-memory c =
    let octets = c.args.i.now in
    let below = octets_below octets (λ k. omega (arith, c.type_inv.i k)) in
    gives_refused (λ r. (ber_head_of r.1, r.0.now)) c.ber_header.result (ber_header_at octets) TakesNoMemory c.ber_header.ensures
    (λ e read. no_memory ber_header_at octets e (ber_header_refused octets e below read))

pub returns-clause-shorter : goal.returns-clause-shorter
returns-clause-shorter c =
    let octets = c.args.i.now in
    let below = octets_below octets (λ k. omega (arith, c.type_inv.i k)) in
    gives_found (λ r. (ber_head_of r.1, r.0.now)) c.ber_header.result (ber_header_at octets) (λ y. length y.1 + 2 ≤ length octets)
    c.ber_header.ensures
    (λ y read. ber_shortens octets y.1 y.0 (ber_header_found octets y.0 y.1 below read))
