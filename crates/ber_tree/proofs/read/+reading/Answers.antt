use Rattle.std.proofs.Common.{◌∙◌, sym, ap, refl, ◌-◌, ◌<◌, ◌++◌, length, arith, append_assoc, length-append}
use Rattle.std.proofs.lemmas.Grind.{common_steps}
use Rattle.asn1_core.specs.Views.{length_of}
use Rattle.asn1_any.specs.Reading.{ber_levels_at}
use Rattle.asn1_any.specs.Views.{ber_any_of}
use Rattle.der_tree.specs.Outcome.{IsNotCut}
use Rattle.der_tree.specs.Tree.{octets, all_octets}
use Rattle.der_tree.specs.Table.{IsConstructed}
use Rattle.der_tree.specs.View.{element_under, view, content_view, views}
use Rattle.der_tree.proofs.Views.{at_sequence, at_set}
use Rattle.der_tree.proofs.Exits.{weaker, passed_on, within_refuses, refused, front_refused, front_whole}
use Rattle.der_tree.proofs.Told.{held_sequence, held_set, told_made, all_push}
use Rattle.ber_tree.specs.Lengths.{ber_length}
use Rattle.ber_tree.proofs.Told.{held_leaf, read_told}
use Rattle.ber_tree.specs.Object.{IsBerContent, AreBerObjects}
use Rattle.ber_tree.proofs.Leaves.{no_ber_sequence, no_ber_set, ber_leaf_content, ber_content_leaf}
use Rattle.ber_tree.proofs.Objects.{object_long, object_element, objects_step, objects_first}
use Rattle.ber_tree.proofs.Reading.{object_there, object_read, views_push, objects_push}
use Rattle.ber_tree.proofs.read.+reading.Goals as goal

pub content_of-returns-in_err-objects_of-clause-none :
    goal.content_of-returns-in_err-objects_of-clause-none
content_of-returns-in_err-objects_of-clause-none t c =
    let e = element_under c.args.header c.args.content.now in
    passed_on c.from_residual.result c.in_err-objects_of.field-0.0 _ c.from_residual.ensures.1
    (weaker c.in_err-objects_of.field-0.0 _ _ (λ none. no_ber_sequence c.args.levels e ((c.is_constructed.ensures c.args.content.now).0 c.if-is_constructed.true) none) c.in_err-objects_of.ensures.none)

pub content_of-returns-then-is_constructed-clause-found :
    goal.content_of-returns-then-is_constructed-clause-found
unfolding IsBerContent
content_of-returns-then-is_constructed-clause-found t c =
    rw at_sequence ((c.is_constructed.ensures c.args.content.now).0 c.if-is_constructed.true, c.in_ok-objects_of.ensures.found.1, c.in_ok-objects_of.ensures.found.0)

pub content_of-returns-in_err-objects_of-2-clause-none :
    goal.content_of-returns-in_err-objects_of-2-clause-none
content_of-returns-in_err-objects_of-2-clause-none t c =
    let e = element_under c.args.header c.args.content.now in
    passed_on c.from_residual-in_err-objects_of-2.result c.in_err-objects_of-2.field-0.0 _ c.from_residual-in_err-objects_of-2.ensures.1
    (weaker c.in_err-objects_of-2.field-0.0 _ _ (λ none. no_ber_set c.args.levels e ((c.is_constructed-2.ensures c.args.content.now).0 c.if-is_constructed-2.true) none) c.in_err-objects_of-2.ensures.none)

pub content_of-returns-then-is_constructed-2-clause-found :
    goal.content_of-returns-then-is_constructed-2-clause-found
unfolding IsBerContent
content_of-returns-then-is_constructed-2-clause-found t c =
    rw at_set ((c.is_constructed-2.ensures c.args.content.now).0 c.if-is_constructed-2.true, c.in_ok-objects_of-2.ensures.found.1, c.in_ok-objects_of-2.ensures.found.0)

pub content_of-returns-then-is_constructed-clause-lengths :
    goal.content_of-returns-then-is_constructed-clause-lengths
content_of-returns-then-is_constructed-clause-lengths t c = held_sequence ber_length (length_of c.args.header) c.in_ok-objects_of.field-0 c.in_ok-objects_of.ensures.lengths

pub content_of-returns-then-is_constructed-2-clause-lengths :
    goal.content_of-returns-then-is_constructed-2-clause-lengths
content_of-returns-then-is_constructed-2-clause-lengths t c = held_set ber_length (length_of c.args.header) c.in_ok-objects_of-2.field-0 c.in_ok-objects_of-2.ensures.lengths

pub content_of-returns-in-Ok-clause-lengths : goal.content_of-returns-in-Ok-clause-lengths
content_of-returns-in-Ok-clause-lengths t c =
    held_leaf ber_length (length_of c.args.header) (element_under c.args.header c.args.content.now) c.in-Ok.leaf (content_view c.in-Ok.leaf) c.in-Ok.ensures.found c.in-Ok.ensures.lengths

pub content_of-returns-in-Ok-clause-found : goal.content_of-returns-in-Ok-clause-found
content_of-returns-in-Ok-clause-found t c =
    ber_leaf_content c.args.levels (element_under c.args.header c.args.content.now) (content_view c.in-Ok.leaf) c.in-Ok.ensures.found

pub content_of-returns-in-Err-clause-none : goal.content_of-returns-in-Err-clause-none
content_of-returns-in-Err-clause-none t c =
    let e = element_under c.args.header c.args.content.now in
    let n = c.if-is_constructed.false in
    let m = c.if-is_constructed-2.false in
    let a : IsConstructed e 16 → ⊥ = λ p. let x = (c.is_constructed.ensures c.args.content.now).1 p in cc in
    let b : IsConstructed e 17 → ⊥ = λ p. let x = (c.is_constructed-2.ensures c.args.content.now).1 p in cc in
    (λ d p. c.in-Err.ensures.none.1 d (ber_content_leaf c.args.levels e a b d p), c.in-Err.ensures.none.0)

pub objects_of-loop-rest-init : goal.objects_of-loop-rest-init
unfolding AreBerObjects
objects_of-loop-rest-init t c = rw c.new-objects.ensures.items (record { objects = tt; lengths = refl; so_far = refl; others = λ ts p e. (ts, p, e) })

pub objects_of-returns-in-Err-clause-none : goal.objects_of-returns-in-Err-clause-none
objects_of-returns-in-Err-clause-none t c =
    let passed = weaker c.in-Err.refusal _ _ (λ none ts p e.
    let us = c.loop-rest.invariant.others ts p e in
    none (objects_first c.args.levels us.0 c.loop-rest.rest.now (grind (arith, common_steps)) us.1 us.2)) c.in-Err.ensures.none in
    within_refuses _ c.in-Err.refusal _ _ (λ x y g. g) c.within.ensures passed

pub objects_of-loop-rest-smaller : goal.objects_of-loop-rest-smaller
objects_of-loop-rest-smaller t c =
    let found = c.in-Ok.ensures.found in
    let long = object_long c.args.levels (view c.in-Ok.read.1) found.0 in
    let less : length c.in-Ok.read.0.now < length c.loop-rest.rest.now = omega (arith, ap length found.1, length-append (octets (view c.in-Ok.read.1)) c.in-Ok.read.0.now, long) in
    less

pub objects_of-loop-rest-preserved : goal.objects_of-loop-rest-preserved
objects_of-loop-rest-preserved t c =
    let found = c.in-Ok.ensures.found in
    let before = c.loop-rest.objects.items in
    let last = c.in-Ok.read.1 in
    let after = c.in-Ok.read.0.now in
    rw c.in_ok-push.ensures.items (record {
      objects = objects_push c.args.levels before last c.loop-rest.invariant.objects found.0;
      lengths = all_push ber_length before last c.loop-rest.invariant.lengths c.in-Ok.ensures.lengths;
      so_far = c.loop-rest.invariant.so_far ∙ ap (λ z. all_octets (views before) ++ z) found.1 ∙ sym (append_assoc (all_octets (views before)) (octets (view last)) after) ∙ ap (λ z. z ++ after) (sym (views_push before last));
      others = λ ts p e.
          let us = c.loop-rest.invariant.others ts p e in
          objects_step c.args.levels us.0 c.loop-rest.rest.now after (view last) (grind (arith, common_steps)) found.0 found.1 us.1 us.2;
    })

pub object_of-returns-in_err-after-clause-none : goal.object_of-returns-in_err-after-clause-none
object_of-returns-in_err-after-clause-none t c =
    passed_on c.from_residual.result c.in_err-after.field-0.0 _ c.from_residual.ensures.1
    (refused c.in_err-after.field-0.0 _ c.in_err-after.ensures.memory (λ p. let has = object_element c.args.levels c.args.i.now p in c.in_err-after.ensures.only has.1.0 has.1.1 has.0 has.1.2))

pub object_of-returns-in_err-content-clause-none : goal.object_of-returns-in_err-content-clause-none
object_of-returns-in_err-content-clause-none t c =
    let found = c.in_ok-after.ensures.found in
    let e = ber_any_of c.in_ok-after.any in
    passed_on c.from_residual-in_err-content.result c.in_err-content.field-0.0 _ c.from_residual-in_err-content.ensures.1
    (weaker c.in_err-content.field-0.0 _ _ (λ none p.
    let there = object_there c.args.levels c.args.i.now c.in_ok-after.after.now e found.1 p in
    none there.1.0 there.1.1) c.in_err-content.ensures.none)

pub object_of-returns-clause-found : goal.object_of-returns-clause-found
object_of-returns-clause-found t c =
    let found = c.in_ok-after.ensures.found in
    let e = ber_any_of c.in_ok-after.any in
    object_read c.args.levels c.args.i.now c.in_ok-after.after.now c.split_at.result.0.now (view c.object_with.result) c.in_ok-after.any.header e (content_view c.in_ok-content.content)
    found.0 found.1 refl c.split_at.ensures.front c.object_with.ensures.tree (c.is_small.ensures.0 (grind (arith, common_steps))) c.in_ok-content.ensures.found

pub object_of-returns-then-not-is_small-clause-none :
    goal.object_of-returns-then-not-is_small-clause-none
object_of-returns-then-not-is_small-clause-none t c = (
  λ p.
      let there = object_there c.args.levels c.args.i.now c.in_ok-after.after.now (ber_any_of c.in_ok-after.any) c.in_ok-after.ensures.found.1 p in
      let small = c.is_small.ensures.1 there.0 in
      let large = c.if-not-is_small.true in
      cc,
  λ e. cc,
)

pub object_of-returns-clause-lengths : goal.object_of-returns-clause-lengths
object_of-returns-clause-lengths t c =
    let h = c.in_ok-after.any.header in
    let same = read_told h (c.args.levels - 1) c.args.i.now c.in_ok-after.after.now c.split_at.result.0.now (ber_any_of c.in_ok-after.any) c.in_ok-after.ensures.found.1 refl c.split_at.ensures.front in
    told_made ber_length c.object_with.result h c.split_at.result.0.now (content_view c.in_ok-content.content) c.in_ok-content.content c.object_with.ensures.lengths c.object_with.ensures.tree same c.in_ok-content.ensures.lengths

pub object_of-returns-clause-front : goal.object_of-returns-clause-front
object_of-returns-clause-front t c = front_whole (ber_levels_at c.args.levels c.args.i.now) _ _ c.in_ok-after.ensures.exact tt

pub object_of-returns-then-not-is_small-clause-front : goal.object_of-returns-then-not-is_small-clause-front
object_of-returns-then-not-is_small-clause-front t c = front_whole (ber_levels_at c.args.levels c.args.i.now) _ _ c.in_ok-after.ensures.exact tt

pub object_of-returns-in_err-after-clause-front : goal.object_of-returns-in_err-after-clause-front
object_of-returns-in_err-after-clause-front t c =
    front_refused (ber_levels_at c.args.levels c.args.i.now) c.from_residual.result c.in_err-after.field-0.0 c.in_err-after.ensures.exact c.from_residual.ensures.1

pub object_of-returns-in_err-content-clause-front : goal.object_of-returns-in_err-content-clause-front
object_of-returns-in_err-content-clause-front t c =
    front_whole (ber_levels_at c.args.levels c.args.i.now) _ _ c.in_ok-after.ensures.exact
    (passed_on c.from_residual-in_err-content.result c.in_err-content.field-0.0 IsNotCut c.from_residual-in_err-content.ensures.1 c.in_err-content.ensures.whole)
