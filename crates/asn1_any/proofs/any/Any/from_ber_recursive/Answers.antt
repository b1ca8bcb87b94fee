use Rattle.std.proofs.Common.{◌+◌, ◌≤◌, length, ◌<◌, ◌-◌, ℕ, List, arith}
use Rattle.asn1_core.specs.Answers.{TakesNoMemory}
use Rattle.asn1_core.specs.Missing.{IsMissing}
use Rattle.asn1_core.proofs.Numbers.{octets_below}
use Rattle.asn1_core.proofs.Gives.{gives_found, gives_only, gives_refused}
use Rattle.asn1_any.specs.BerElements.{BerElement, BeginsWithBerElement, HasBerElement}
use Rattle.asn1_any.specs.Reading.{ber_element_at}
use Rattle.asn1_any.specs.Views.{ber_any_of}
use Rattle.asn1_any.proofs.BerReading.{ber_found, ber_only}
use Rattle.asn1_any.proofs.Long.{ber_element_takes}
use Rattle.asn1_any.proofs.BerRefusals.{ber_told, missing_weaker}
use Rattle.asn1_any.proofs.any.Any.from_ber_recursive.Goals as goal

pub returns-clause-found : goal.returns-clause-found
returns-clause-found c =
    let octets = c.args.i.now in
    let n = c.args.levels - 1 in
    let below = octets_below octets (λ k. omega (arith, c.type_inv.i k)) in
    let some : 0 < c.args.levels = omega arith in
    gives_found (λ r. (ber_any_of r.1, r.0.now)) c.ber_element.result (ber_element_at n octets) (λ (y : BerElement × List ℕ). (0 < c.args.levels) × BeginsWithBerElement n octets y.0 y.1)
    c.ber_element.ensures (λ y read. (some, ber_found n octets y.1 y.0 below read))

pub returns-clause-only : goal.returns-clause-only
returns-clause-only c = λ e rest some begins.
    let read = ber_only (c.args.levels - 1) c.args.i.now rest e begins in
    let given = c.ber_element.ensures in
    gives_only (λ r. ber_any_of r.1) (λ r. r.0.now) c.ber_element.result e rest (rw read at given)

pub returns-clause-missing : goal.returns-clause-missing
returns-clause-missing c =
    let octets = c.args.i.now in
    let n = c.args.levels - 1 in
    let below = octets_below octets (λ k. omega (arith, c.type_inv.i k)) in
    gives_refused (λ r. (ber_any_of r.1, r.0.now)) c.ber_element.result (ber_element_at n octets) (IsMissing (λ s. (0 < c.args.levels) × HasBerElement n s) octets) c.ber_element.ensures
    (λ e read. missing_weaker e octets (HasBerElement n) (λ s. (0 < c.args.levels) × HasBerElement n s) (λ s q. q.1) (ber_told n octets e below read).missing)

pub returns-clause-memory : goal.returns-clause-memory
returns-clause-memory c =
    let octets = c.args.i.now in
    let n = c.args.levels - 1 in
    let below = octets_below octets (λ k. omega (arith, c.type_inv.i k)) in
    gives_refused (λ r. (ber_any_of r.1, r.0.now)) c.ber_element.result (ber_element_at n octets) TakesNoMemory c.ber_element.ensures
    (λ e read. (ber_told n octets e below read).memory)

pub returns-clause-shorter : goal.returns-clause-shorter
returns-clause-shorter c =
    let octets = c.args.i.now in
    let n = c.args.levels - 1 in
    let below = octets_below octets (λ k. omega (arith, c.type_inv.i k)) in
    gives_found (λ r. (ber_any_of r.1, r.0.now)) c.ber_element.result (ber_element_at n octets) (λ (y : BerElement × List ℕ). length y.0.content + 2 + length y.1 ≤ length octets)
    c.ber_element.ensures (λ y read. ber_element_takes n octets y.1 y.0 (ber_found n octets y.1 y.0 below read))
