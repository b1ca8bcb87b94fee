use Rattle.std.proofs.Common.{◌+◌, ◌≤◌, length, ◌≡◌, ℕ, List, ◌++◌, Ok, arith}
use Rattle.asn1_core.specs.Answers.{TakesNoMemory}
use Rattle.asn1_core.specs.Missing.{IsMissing}
use Rattle.asn1_core.proofs.Numbers.{octets_below}
use Rattle.asn1_core.proofs.Gives.{gives_found, gives_only, gives_refused}
use Rattle.asn1_any.specs.BerElements.{BerElement, BeginsWithBerElement, HasBerElement}
use Rattle.asn1_any.specs.Reading.{ber_element_at}
use Rattle.asn1_any.specs.Views.{ber_any_of}
use Rattle.asn1_any.proofs.BerReading.{ber_found, ber_only, ber_stays}
use Rattle.asn1_any.proofs.Long.{ber_element_takes}
use Rattle.asn1_any.proofs.BerRefusals.{ber_told}
use Rattle.asn1_any.proofs.any.Any.from_ber.Goals as goal

pub returns-clause-found : goal.returns-clause-found
returns-clause-found c =
    let octets = c.args.i.now in
    let below = octets_below octets (λ k. omega (arith, c.type_inv.i k)) in
    gives_found (λ r. (ber_any_of r.1, r.0.now)) c.ber_element.result (ber_element_at 49 octets) (λ (y : BerElement × List ℕ). BeginsWithBerElement 49 octets y.0 y.1)
    c.ber_element.ensures (λ y read. ber_found 49 octets y.1 y.0 below read)

pub returns-clause-only : goal.returns-clause-only
returns-clause-only c = λ e rest begins.
    let read = ber_only 49 c.args.i.now rest e begins in
    let given = c.ber_element.ensures in
    gives_only (λ r. ber_any_of r.1) (λ r. r.0.now) c.ber_element.result e rest (rw read at given)

pub returns-clause-stays : goal.returns-clause-stays
returns-clause-stays c =
    let octets = c.args.i.now in
    let below = octets_below octets (λ k. omega (arith, c.type_inv.i k)) in
    gives_found (λ r. (ber_any_of r.1, r.0.now)) c.ber_element.result (ber_element_at 49 octets)
    (λ (y : BerElement × List ℕ). (more : List ℕ) → ber_element_at 49 (octets ++ more) ≡ Ok (y.0, y.1 ++ more)) c.ber_element.ensures
    (λ y read. λ more. ber_only 49 (octets ++ more) (y.1 ++ more) y.0 (ber_stays 49 octets y.1 more y.0 (ber_found 49 octets y.1 y.0 below read)))

pub returns-clause-missing : goal.returns-clause-missing
returns-clause-missing c =
    let octets = c.args.i.now in
    let below = octets_below octets (λ k. omega (arith, c.type_inv.i k)) in
    gives_refused (λ r. (ber_any_of r.1, r.0.now)) c.ber_element.result (ber_element_at 49 octets) (IsMissing (HasBerElement 49) octets) c.ber_element.ensures
    (λ e read. (ber_told 49 octets e below read).missing)

pub returns-clause-memory : goal.returns-clause-memory
returns-clause-memory c =
    let octets = c.args.i.now in
    let below = octets_below octets (λ k. omega (arith, c.type_inv.i k)) in
    gives_refused (λ r. (ber_any_of r.1, r.0.now)) c.ber_element.result (ber_element_at 49 octets) TakesNoMemory c.ber_element.ensures
    (λ e read. (ber_told 49 octets e below read).memory)

pub returns-clause-shorter : goal.returns-clause-shorter
returns-clause-shorter c =
    let octets = c.args.i.now in
    let below = octets_below octets (λ k. omega (arith, c.type_inv.i k)) in
    gives_found (λ r. (ber_any_of r.1, r.0.now)) c.ber_element.result (ber_element_at 49 octets) (λ (y : BerElement × List ℕ). length y.0.content + 2 + length y.1 ≤ length octets)
    c.ber_element.ensures (λ y read. ber_element_takes 49 octets y.1 y.0 (ber_found 49 octets y.1 y.0 below read))
