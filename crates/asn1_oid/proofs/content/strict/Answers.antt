use Rattle.std.proofs.Common.{Bool, false, ◌&&◌, length, sym, ap, ◌∙◌, inl, inr, arith}
use Rattle.std.specs.Prelude.{nat_lt}
use Rattle.std.proofs.lemmas.Bool.{lt-ltb, and_right, eqb-false}
use Rattle.asn1_oid.specs.Reading.{is_strict_after}
use Rattle.asn1_oid.proofs.Steps.{strict-end, strict-step, strict-stops}
use Rattle.asn1_oid.proofs.content.strict.Goals as goal
use Rattle.asn1_oid.proofs.content.strict.Goals.{else-not-within-via-then-not-within+else-octet, else-not-within-via-else-not-within}

pub returns-then-octet : goal.returns-then-octet
returns-then-octet c =
    let octets = c.args.octets.now in
    let stops = strict-stops c.loop-octet.octet-index octets c.loop-octet-test.true c.if-octet.true in
    let same = rw c.if-not-within.true at c.loop-octet.invariant in
    sym (and_right (nat_lt 0 (length octets)) (is_strict_after false octets) (sym same ∙ stops))

pub loop-octet-preserved : goal.loop-octet-preserved
loop-octet-preserved c =
    let step = strict-step c.loop-octet.within c.loop-octet.octet-index c.args.octets.now c.loop-octet-test.true in
    elim c.else-not-within.branch [
      | else-not-within-via-then-not-within+else-octet w ↦ sym (step (inr w.if-octet.false)) ∙ c.loop-octet.invariant
      | else-not-within-via-else-not-within w ↦ sym (step (inl w.if-not-within.false)) ∙ c.loop-octet.invariant
    ]

pub returns-then-not-is_empty : goal.returns-then-not-is_empty
returns-then-not-is_empty c =
    let octets = c.args.octets.now in
    let end = strict-end c.loop-octet.within c.loop-octet.octet-index octets (omega arith) in
    let some = lt-ltb 0 (length octets) (let none = eqb-false (length octets) 0 (sym c.if-not-is_empty.ensures) in omega arith) in
    sym end ∙ c.loop-octet.invariant ∙ sym (ap (λ (b : Bool). b && is_strict_after false octets) some)
