use Rattle.std.proofs.Common.{◌∙◌, ◌+◌, ◌-◌, ◌≤◌, ◌++◌, eqb-true, ap, sym, subst, length, length-take, arith}
use Rattle.asn1_core.proofs.Numbers.{octets_below}
use Rattle.asn1_any.specs.DerElements.{SpellsElement}
use Rattle.asn1_any.specs.Views.{any_of}
use Rattle.asn1_any.proofs.Cuts.{front_is, is_read, none_begins, element_long}
use Rattle.asn1_any.proofs.Long.{element_takes}
use Rattle.asn1_any.proofs.cut.first_element_counted.Goals as goal

pub returns-then-is_empty-clause-none : goal.returns-then-is_empty-clause-none
returns-then-is_empty-clause-none c = λ has.
    let long = element_long c.args.octets.now has.1 has.0 has.2 in
    let none = eqb-true (length c.args.octets.now) 0 (sym c.is_empty.ensures ∙ c.if-is_empty.true) in
    omega (arith, long, none)

pub returns-in_default-clause-none : goal.returns-in_default-clause-none
returns-in_default-clause-none c = λ has. none_begins c.args.octets.now c.in_default.field-0 c.in_default.ensures.exact has

pub overflow_sub-octets : goal.overflow_sub-octets
overflow_sub-octets c =
    let octets = c.args.octets.now in
    let read = is_read octets c.in-Ok.rest.now (any_of c.in-Ok.any) (octets_below octets (λ k. omega (arith, c.type_inv.octets k))) c.in-Ok.ensures.exact in
    let shorter = read.shorter in
    omega arith

pub returns-clause-found : goal.returns-clause-found
returns-clause-found c =
    let octets = c.args.octets.now in
    let rest = c.in-Ok.rest.now in
    let read = is_read octets rest (any_of c.in-Ok.any) (octets_below octets (λ k. omega (arith, c.type_inv.octets k))) c.in-Ok.ensures.exact in
    subst (λ z. SpellsElement z (any_of c.in-Ok.any)) (sym (c.split_at.ensures.front ∙ front_is octets read.begins.front rest read.begins.whole)) read.begins.spells

pub returns-clause-whole : goal.returns-clause-whole
returns-clause-whole c =
    let octets = c.args.octets.now in
    let rest = c.in-Ok.rest.now in
    let read = is_read octets rest (any_of c.in-Ok.any) (octets_below octets (λ k. omega (arith, c.type_inv.octets k))) c.in-Ok.ensures.exact in
    read.begins.whole ∙ ap (λ z. z ++ rest) (sym (c.split_at.ensures.front ∙ front_is octets read.begins.front rest read.begins.whole))

pub returns-clause-shorter : goal.returns-clause-shorter
returns-clause-shorter c =
    let octets = c.args.octets.now in
    (is_read octets c.in-Ok.rest.now (any_of c.in-Ok.any) (octets_below octets (λ k. omega (arith, c.type_inv.octets k))) c.in-Ok.ensures.exact).shorter

pub returns-clause-longer : goal.returns-clause-longer
returns-clause-longer c =
    let octets = c.args.octets.now in
    let rest = c.in-Ok.rest.now in
    let element = any_of c.in-Ok.any in
    let read = is_read octets rest element (octets_below octets (λ k. omega (arith, c.type_inv.octets k))) c.in-Ok.ensures.exact in
    let long : length c.in-Ok.any.content.now + 2 ≤ length c.split_at.result.0.now = omega (arith, ap length c.split_at.ensures.front, length-take (length octets - length rest) octets, element_takes octets rest element read.begins) in
    long
