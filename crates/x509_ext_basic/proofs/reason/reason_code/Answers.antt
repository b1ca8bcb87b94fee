use Rattle.std.proofs.Common.{arith, subst}
use Rattle.asn1_core.proofs.Numbers.{octets_below}
use Rattle.x509_core.proofs.Public.{gives_found, gives_only}
use Rattle.asn1_traits.specs.Leaves.{MeansOctets}
use Rattle.x509_core.specs.Answers.{Gives}
use Rattle.x509_core.specs.Leaves.{Leaf}
use Rattle.x509_core.specs.Reading.{leaf_in, next}
use Rattle.x509_core.proofs.Grammars.{next_reading}
use Rattle.x509_core.proofs.LeafLaws.{octets_meaning_of}
use Rattle.x509_ext_basic.specs.Leaves as grammar
use Rattle.x509_ext_basic.specs.Refusals.{no_reason}
use Rattle.x509_ext_basic.proofs.Told.{told_by, reason_read}
use Rattle.x509_ext_basic.specs.Reading.{reason_at}
use Rattle.x509_ext_basic.specs.View.{reason_view}
use Rattle.x509_ext_basic.proofs.Laws.{reason_reading}
use Rattle.x509_ext_basic.proofs.reason.reason_code.Goals as goal

pub returns-clause-found : goal.returns-clause-found
returns-clause-found c =
    gives_found grammar.CRLReason reason_at reason_reading reason_view c.args.i.now c.reason_at_front.result
    (octets_below c.args.i.now (λ k. omega (arith, c.type_inv.i k))) c.reason_at_front.ensures.exact

pub returns-clause-only : goal.returns-clause-only
returns-clause-only c =
    gives_only grammar.CRLReason reason_at reason_reading reason_view c.args.i.now c.reason_at_front.result
    (octets_below c.args.i.now (λ k. omega (arith, c.type_inv.i k))) c.reason_at_front.ensures.exact

pub returns-clause-refused : goal.returns-clause-refused
returns-clause-refused c =
    λ content rest there none.
    let i = c.args.i.now in
    let below = octets_below i (λ k. omega (arith, c.type_inv.i k)) in
    let read = (next_reading (Leaf 10 (MeansOctets (λ v. v))) (λ p. leaf_in 10 p.element) (octets_meaning_of 10)).only i content rest below there in
    told_by c.reason_at_front.result no_reason (next (λ p. leaf_in 10 p.element) i) (content, rest) read
    (λ x is. none (reason_view x.1) (reason_read i content rest (reason_view x.1) x.0.now read (subst (λ z. Gives (λ r. (reason_view r.1, r.0.now)) z (reason_at i)) is c.reason_at_front.ensures.exact)))
    c.reason_at_front.ensures.refused
