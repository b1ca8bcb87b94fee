use Rattle.std.proofs.Common.{sym, subst, ◌∙◌, arith, length}
use Rattle.std.proofs.lemmas.Bool.{eqb-true}
use Rattle.asn1_any.specs.DerElements.{HasElement}
use Rattle.asn1_any.proofs.Cuts.{element_long}
use Rattle.asn1_core.proofs.Numbers.{octets_below}
use Rattle.x509_core.specs.Parts.{IsCut, ahead_of}
use Rattle.x509_core.proofs.CutAhead.{none_left, below_rest, one_left, few_none, few_one, few_two}
use Rattle.x509_core.proofs.ahead.Ahead.cut.Goals as goal

pub returns-then-is_empty-clause-cut : goal.returns-then-is_empty-clause-cut
returns-then-is_empty-clause-cut c =
    let content = c.args.content.now in
    let below = octets_below content (λ k. omega (arith, c.type_inv.content k)) in
    let none = eqb-true (length content) 0 (sym c.is_empty.ensures ∙ c.if-is_empty.true) in
    let nothing : ¬ HasElement content = λ has. let long = element_long content has.1 has.0 has.2 in omega (arith, long, none) in
    subst (IsCut content) (sym (few_none c.few.result c.few.ensures.front c.few.ensures.at c.few.ensures.others)) (none_left content below nothing)

pub returns-in_default-clause-cut : goal.returns-in_default-clause-cut
returns-in_default-clause-cut c =
    let content = c.args.content.now in
    let below = octets_below content (λ k. omega (arith, c.type_inv.content k)) in
    subst (IsCut content) (sym (few_none c.few-in_default.result c.few-in_default.ensures.front c.few-in_default.ensures.at c.few-in_default.ensures.others)) (none_left content below c.in_default.ensures.none)

pub returns-in_default-first_element_counted-clause-cut : goal.returns-in_default-first_element_counted-clause-cut
returns-in_default-first_element_counted-clause-cut c =
    let content = c.args.content.now in
    let below = octets_below content (λ k. omega (arith, c.type_inv.content k)) in
    let front = c.in-Some.front in
    let tail = c.in-Some.tail.now in
    let few = c.few-in_default-first_element_counted in
    let rest = below_rest content front.octets.now tail below c.in-Some.ensures.whole in
    subst (IsCut content) (sym (few_one few.result front few.ensures.front few.ensures.second few.ensures.at few.ensures.others))
    (one_left content tail front _ below c.in-Some.ensures.found c.in-Some.ensures.length c.in-Some.ensures.whole (none_left tail rest c.in_default-first_element_counted.ensures.none))

pub returns-in_default-first_element_counted-2-clause-cut : goal.returns-in_default-first_element_counted-2-clause-cut
returns-in_default-first_element_counted-2-clause-cut c =
    let content = c.args.content.now in
    let below = octets_below content (λ k. omega (arith, c.type_inv.content k)) in
    let front = c.in-Some.front in
    let tail = c.in-Some.tail.now in
    let second = c.in-Some-first_element_counted.second in
    let behind = c.in-Some-first_element_counted.tail.now in
    let few = c.few-in_default-first_element_counted-2 in
    let rest = below_rest content front.octets.now tail below c.in-Some.ensures.whole in
    let last = below_rest tail second.octets.now behind rest c.in-Some-first_element_counted.ensures.whole in
    subst (IsCut content) (sym (few_two few.result front second few.ensures.front few.ensures.second few.ensures.third few.ensures.at few.ensures.others))
    (one_left content tail front _ below c.in-Some.ensures.found c.in-Some.ensures.length c.in-Some.ensures.whole
    (one_left tail behind second _ rest c.in-Some-first_element_counted.ensures.found c.in-Some-first_element_counted.ensures.length c.in-Some-first_element_counted.ensures.whole
    (none_left behind last c.in_default-first_element_counted-2.ensures.none)))

pub returns-clause-cut : goal.returns-clause-cut
unfolding ahead_of
returns-clause-cut c =
    let content = c.args.content.now in
    let below = octets_below content (λ k. omega (arith, c.type_inv.content k)) in
    let front = c.in-Some.front in
    let tail = c.in-Some.tail.now in
    let second = c.in-Some-first_element_counted.second in
    let behind = c.in-Some-first_element_counted.tail.now in
    let third = c.in-Some-first_element_counted-2.third in
    let last = c.in-Some-first_element_counted-2.tail.now in
    let others = c.in_ok-others.others in
    let rest = below_rest content front.octets.now tail below c.in-Some.ensures.whole in
    let left = below_rest tail second.octets.now behind rest c.in-Some-first_element_counted.ensures.whole in
    let end = below_rest behind third.octets.now last left c.in-Some-first_element_counted-2.ensures.whole in
    one_left content tail front _ below c.in-Some.ensures.found c.in-Some.ensures.length c.in-Some.ensures.whole
    (one_left tail behind second _ rest c.in-Some-first_element_counted.ensures.found c.in-Some-first_element_counted.ensures.length c.in-Some-first_element_counted.ensures.whole
    (one_left behind last third _ left c.in-Some-first_element_counted-2.ensures.found c.in-Some-first_element_counted-2.ensures.length c.in-Some-first_element_counted-2.ensures.whole
    (record { below = end; tail = others.tail.now; cutting = c.in_ok-others.ensures.cut; counted = c.in_ok-others.ensures.lengths })))
