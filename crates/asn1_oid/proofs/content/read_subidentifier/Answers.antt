use Rattle.std.proofs.Common.{◌≡◌, ◌∷◌, ap, ◌∙◌, rules, arith}
use Rattle.std.proofs.lemmas.List.{nil_from_length}
use Rattle.asn1_oid.specs.Reading.{numbers_after}
use Rattle.asn1_oid.proofs.Steps.{small_fits, small_last, small_more, numbers_last, numbers_more}
use Rattle.asn1_oid.proofs.content.read_subidentifier.Goals as goal

pub overflow_mul-number : goal.overflow_mul-number
overflow_mul-number c =
    let e : c.loop-octet.rest.now ≡ c.in-Some.octet.now ∷ c.in-Some.after.now = search rules in
    let s = rw e at c.loop-octet.invariant.0 in
    let f = small_fits c.loop-octet.number c.in-Some.octet.now c.in-Some.after.now s in
    omega arith

pub overflow_add-number : goal.overflow_add-number
overflow_add-number c =
    let e : c.loop-octet.rest.now ≡ c.in-Some.octet.now ∷ c.in-Some.after.now = search rules in
    let s = rw e at c.loop-octet.invariant.0 in
    let f = small_fits c.loop-octet.number c.in-Some.octet.now c.in-Some.after.now s in
    let t = c.from.ensures in
    omega arith

pub returns-then-octet-lt128 : goal.returns-then-octet-lt128
returns-then-octet-lt128 c =
    let e : c.loop-octet.rest.now ≡ c.in-Some.octet.now ∷ c.in-Some.after.now = search rules in
    let s = rw e at c.loop-octet.invariant.0 in
    let t = rw e at c.loop-octet.invariant.1 in
    let low = c.if-octet-lt128.true in
    record { numbers = t ∙ rw c.from.ensures (numbers_last c.loop-octet.number c.in-Some.octet.now c.in-Some.after.now low); small = small_last _ _ _ s low }

pub loop-octet-preserved : goal.loop-octet-preserved
loop-octet-preserved c =
    let e : c.loop-octet.rest.now ≡ c.in-Some.octet.now ∷ c.in-Some.after.now = search rules in
    let s = rw e at c.loop-octet.invariant.0 in
    let t = rw e at c.loop-octet.invariant.1 in
    let high = c.if-octet-lt128.false in
    rw c.from.ensures (small_more _ _ _ s high, t ∙ numbers_more _ _ _ high)

pub returns : goal.returns
unfolding numbers_after
returns c =
    let none = nil_from_length c.loop-octet.rest.now c.in_default.ensures.cases in
    c.loop-octet.invariant.1 ∙ ap (numbers_after c.loop-octet.number) none
