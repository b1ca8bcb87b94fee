use Rattle.std.proofs.Common.{◌+◌, ◌≤◌, length, ◌≡◌, ◌++◌, ap, ◌∙◌, arith}
use Rattle.asn1_core.specs.Strict.{IsHead, strict_header}
use Rattle.asn1_core.specs.Missing.{HasStrictHeader, IsMissing}
use Rattle.asn1_core.specs.Answers.{TakesNoMemory}
use Rattle.asn1_core.specs.Reading.{strict_at}
use Rattle.asn1_core.specs.Views.{head_of}
use Rattle.asn1_core.proofs.Numbers.{octets_below}
use Rattle.asn1_core.proofs.Gives.{gives_found, gives_only, gives_refused}
use Rattle.asn1_core.proofs.StrictLaws.{strict_found, strict_again}
use Rattle.asn1_core.proofs.Long.{strictly_shortens}
use Rattle.asn1_core.proofs.Refusals.{strict_no_memory, strict_header_missing}
use Rattle.asn1_core.proofs.header.Header.strict.Goals as goal

pub returns-clause-found : goal.returns-clause-found
returns-clause-found c =
    let octets = c.args.i.now in
    let below = octets_below octets (λ k. omega (arith, c.type_inv.i k)) in
    gives_found (λ r. (head_of r.1, r.0.now)) c.strict_header.result (strict_at octets)
    (λ y. IsHead y.0 × (octets ≡ strict_header y.0 ++ y.1))
    c.strict_header.ensures.exact
    (λ y read. let found = strict_found octets y.0 y.1 below read in (found.head, found.whole))

pub returns-clause-only : goal.returns-clause-only
returns-clause-only c = λ h rest head whole.
    let read = ap strict_at whole ∙ strict_again h rest head in
    let given = c.strict_header.ensures.exact in
    gives_only (λ r. head_of r.1) (λ r. r.0.now) c.strict_header.result h rest (rw read at given)

pub returns-clause-missing : goal.returns-clause-missing
returns-clause-missing c =
    let octets = c.args.i.now in
    let below = octets_below octets (λ k. omega (arith, c.type_inv.i k)) in
    gives_refused (λ r. (head_of r.1, r.0.now)) c.strict_header.result (strict_at octets) (IsMissing HasStrictHeader octets) c.strict_header.ensures.exact
    (λ e read. strict_header_missing octets e below read)

pub returns-clause-memory : goal.returns-clause-memory
returns-clause-memory c =
    let octets = c.args.i.now in
    let below = octets_below octets (λ k. omega (arith, c.type_inv.i k)) in
    gives_refused (λ r. (head_of r.1, r.0.now)) c.strict_header.result (strict_at octets) TakesNoMemory c.strict_header.ensures.exact
    (λ e read. strict_no_memory octets e below read)

pub returns-clause-shorter : goal.returns-clause-shorter
returns-clause-shorter c =
    let octets = c.args.i.now in
    let below = octets_below octets (λ k. omega (arith, c.type_inv.i k)) in
    gives_found (λ r. (head_of r.1, r.0.now)) c.strict_header.result (strict_at octets) (λ y. length y.1 + 2 ≤ length octets)
    c.strict_header.ensures.exact
    (λ y read. strictly_shortens octets y.1 y.0 (strict_found octets y.0 y.1 below read))
