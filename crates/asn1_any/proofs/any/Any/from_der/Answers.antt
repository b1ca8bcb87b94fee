use Rattle.std.proofs.Common.{ℕ, ◌+◌, ◌≤◌, List, length, arith}
use Rattle.asn1_core.specs.Elements.{Element}
use Rattle.asn1_core.specs.Answers.{TakesNoMemory}
use Rattle.asn1_core.specs.Missing.{IsMissing}
use Rattle.asn1_core.proofs.Numbers.{octets_below}
use Rattle.asn1_core.proofs.Gives.{gives_found, gives_only, gives_refused}
use Rattle.asn1_core.proofs.Refusals.{no_memory}
use Rattle.asn1_any.specs.DerElements.{BeginsWithElement, HasElement}
use Rattle.asn1_any.specs.Reading.{der_element_at}
use Rattle.asn1_any.specs.Views.{any_of}
use Rattle.asn1_any.proofs.DerLaws.{der_found, der_only}
use Rattle.asn1_any.proofs.Long.{element_takes}
use Rattle.asn1_any.proofs.Refusals.{element_refused, element_missing}
use Rattle.asn1_any.proofs.any.Any.from_der.Goals as goal

pub returns-clause-found : goal.returns-clause-found
returns-clause-found c =
    let octets = c.args.i.now in
    let below = octets_below octets (λ k. omega (arith, c.type_inv.i k)) in
    gives_found (λ r. (any_of r.1, r.0.now)) c.der_element.result (der_element_at octets) (λ (y : Element × List ℕ). BeginsWithElement octets y.0 y.1)
    c.der_element.ensures.exact (λ y read. der_found octets y.1 y.0 below read)

pub returns-clause-only : goal.returns-clause-only
returns-clause-only c = λ e rest begins.
    let read = der_only c.args.i.now rest e begins in
    let given = c.der_element.ensures.exact in
    gives_only (λ r. any_of r.1) (λ r. r.0.now) c.der_element.result e rest (rw read at given)

pub returns-clause-missing : goal.returns-clause-missing
returns-clause-missing c =
    let octets = c.args.i.now in
    let below = octets_below octets (λ k. omega (arith, c.type_inv.i k)) in
    gives_refused (λ r. (any_of r.1, r.0.now)) c.der_element.result (der_element_at octets) (IsMissing HasElement octets) c.der_element.ensures.exact
    (λ e read. element_missing octets e (element_refused octets e below read))

pub returns-clause-memory : goal.returns-clause-memory
returns-clause-memory c =
    let octets = c.args.i.now in
    let below = octets_below octets (λ k. omega (arith, c.type_inv.i k)) in
    gives_refused (λ r. (any_of r.1, r.0.now)) c.der_element.result (der_element_at octets) TakesNoMemory c.der_element.ensures.exact
    (λ e read. no_memory der_element_at octets e (element_refused octets e below read))

pub returns-clause-shorter : goal.returns-clause-shorter
returns-clause-shorter c =
    let octets = c.args.i.now in
    let below = octets_below octets (λ k. omega (arith, c.type_inv.i k)) in
    gives_found (λ r. (any_of r.1, r.0.now)) c.der_element.result (der_element_at octets) (λ (y : Element × List ℕ). length y.0.content + 2 + length y.1 ≤ length octets)
    c.der_element.ensures.exact (λ y read. element_takes octets y.1 y.0 (der_found octets y.1 y.0 below read))
