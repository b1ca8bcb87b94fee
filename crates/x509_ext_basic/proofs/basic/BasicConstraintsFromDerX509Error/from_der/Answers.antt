use Rattle.std.proofs.Common.{arith, subst, ap, ◌∙◌, [], ◌∷◌, Err}
use Rattle.asn1_core.proofs.Numbers.{octets_below}
use Rattle.x509_core.proofs.Public.{gives_found, gives_only}
use Rattle.x509_ext_flags.proofs.PlainReads.{gives_reads_plainly}
use Rattle.asn1_core.specs.declared.outcome.Err.TheVariants as refusals
use Rattle.x509_core.specs.declared.error.X509Error.TheVariants as errors
use Rattle.x509_core.specs.Answers.{Gives}
use Rattle.x509_core.specs.Reading.{next}
use Rattle.x509_core.proofs.Grammars.{next_reading}
use Rattle.x509_ext_basic.specs.Leaves as grammar
use Rattle.x509_ext_basic.specs.Refusals.{fault_by, fault_before}
use Rattle.x509_ext_basic.proofs.Told.{told_by, constraints_read, inner_read, none_inner}
use Rattle.x509_ext_basic.specs.Leaves.{IsSequence, IsBasicConstraints}
use Rattle.x509_ext_basic.specs.Reading.{sequence_in, constraints_of, constraints_at}
use Rattle.x509_ext_basic.specs.View.{basic_constraints_view}
use Rattle.x509_ext_basic.proofs.BasicLaws.{sequence_meaning, constraints_meaning, constraints_reading}
use Rattle.x509_ext_basic.proofs.basic.BasicConstraintsFromDerX509Error.from_der.Goals as goal

pub returns-clause-reads : goal.returns-clause-reads
returns-clause-reads c =
    gives_reads_plainly IsBasicConstraints constraints_of constraints_meaning basic_constraints_view c.args.bytes.now c.constraints_at_front.result
    (octets_below c.args.bytes.now (λ k. omega (arith, c.type_inv.bytes k))) c.constraints_at_front.ensures.exact c.constraints_at_front.ensures.missing c.constraints_at_front.ensures.memory

pub returns-clause-found : goal.returns-clause-found
returns-clause-found c =
    gives_found grammar.BasicConstraints constraints_at constraints_reading basic_constraints_view c.args.bytes.now c.constraints_at_front.result
    (octets_below c.args.bytes.now (λ k. omega (arith, c.type_inv.bytes k))) c.constraints_at_front.ensures.exact

pub returns-clause-only : goal.returns-clause-only
returns-clause-only c =
    gives_only grammar.BasicConstraints constraints_at constraints_reading basic_constraints_view c.args.bytes.now c.constraints_at_front.result
    (octets_below c.args.bytes.now (λ k. omega (arith, c.type_inv.bytes k))) c.constraints_at_front.ensures.exact

pub returns-clause-tag : goal.returns-clause-tag
returns-clause-tag c =
    λ content rest e there none part.
    let i = c.args.bytes.now in
    let below = octets_below i (λ k. omega (arith, c.type_inv.bytes k)) in
    let read = (next_reading IsSequence (λ p. sequence_in p.element) sequence_meaning).only i content rest below there in
    told_by c.constraints_at_front.result fault_before (next (λ p. sequence_in p.element) i) (content, rest) read
    (λ x is. none (basic_constraints_view x.1) (constraints_read i content rest (basic_constraints_view x.1) x.0.now read (subst (λ z. Gives (λ r. (basic_constraints_view r.1, r.0.now)) z (constraints_at i)) is c.constraints_at_front.ensures.exact)))
    c.constraints_at_front.ensures.refused
    ∙ ap (λ z. Err (refusals.Error (errors.Der (fault_by z)))) (inner_read i content rest e [] below there part)

pub returns-clause-length : goal.returns-clause-length
returns-clause-length c =
    λ content rest e x left there none part.
    let i = c.args.bytes.now in
    let below = octets_below i (λ k. omega (arith, c.type_inv.bytes k)) in
    let read = (next_reading IsSequence (λ p. sequence_in p.element) sequence_meaning).only i content rest below there in
    told_by c.constraints_at_front.result fault_before (next (λ p. sequence_in p.element) i) (content, rest) read
    (λ x is. none (basic_constraints_view x.1) (constraints_read i content rest (basic_constraints_view x.1) x.0.now read (subst (λ z. Gives (λ r. (basic_constraints_view r.1, r.0.now)) z (constraints_at i)) is c.constraints_at_front.ensures.exact)))
    c.constraints_at_front.ensures.refused
    ∙ ap (λ z. Err (refusals.Error (errors.Der (fault_by z)))) (inner_read i content rest e (x ∷ left) below there part)

pub returns-clause-none : goal.returns-clause-none
returns-clause-none c =
    λ content rest there none nothing.
    let i = c.args.bytes.now in
    let below = octets_below i (λ k. omega (arith, c.type_inv.bytes k)) in
    let read = (next_reading IsSequence (λ p. sequence_in p.element) sequence_meaning).only i content rest below there in
    told_by c.constraints_at_front.result fault_before (next (λ p. sequence_in p.element) i) (content, rest) read
    (λ x is. none (basic_constraints_view x.1) (constraints_read i content rest (basic_constraints_view x.1) x.0.now read (subst (λ z. Gives (λ r. (basic_constraints_view r.1, r.0.now)) z (constraints_at i)) is c.constraints_at_front.ensures.exact)))
    c.constraints_at_front.ensures.refused
    ∙ ap (λ z. Err (refusals.Error (errors.Der z))) (none_inner i content rest below there nothing)
