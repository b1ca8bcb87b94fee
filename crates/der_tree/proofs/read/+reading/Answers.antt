use Rattle.std.proofs.Common.{subst, Bor, List, ℕ, ◌≡◌, ◌∙◌, sym, ap, refl, ◌<◌, ◌++◌, length, arith, append_assoc, length-append}
use Rattle.std.proofs.lemmas.Grind.{common_steps}
use Rattle.der_tree.specs.Tree.{octets, all_octets}
use Rattle.der_tree.specs.Table.{IsConstructed}
use Rattle.der_tree.specs.Shape.{IsContent, AreObjects, BeginsWithObject}
use Rattle.asn1_core.specs.Elements.{head_of_element}
use Rattle.asn1_core.specs.Views.{head_of, length_of}
use Rattle.der_tree.specs.Lengths.{lengths_within, lengths_held, definite_length}
use Rattle.der_tree.proofs.Told.{in_object, held_sequence, held_set, held_leaf, definite_told, told_made, all_push}
use Rattle.der_tree.specs.Object.{IsCut, HasCut}
use Rattle.der_tree.specs.View.{element_under, view, content_view, views}
use Rattle.der_tree.specs.Outcome.{IsNotCut, cut_at}
use Rattle.der_tree.proofs.Views.{at_sequence, at_set, at_object}
use Rattle.der_tree.proofs.Exits.{weaker, passed_on, within_refuses, refused, missing_weaker, front_refused, front_whole}
use Rattle.der_tree.proofs.Objects.{no_sequence, no_set, leaf_content, content_leaf, object_parts, object_long, objects_step, objects_first}
use Rattle.der_tree.proofs.Reading.{object_cut, object_content, object_read, views_push, objects_push, counts_push, count_bound, nothing_begins, nothing_cut}
use Rattle.der_tree.proofs.read.+reading.Goals as goal

pub content_of-returns-in_err-objects_of-clause-none :
    goal.content_of-returns-in_err-objects_of-clause-none
content_of-returns-in_err-objects_of-clause-none t c =
    let e = element_under c.args.header c.args.content.now in
    passed_on c.from_residual.result c.in_err-objects_of.field-0.0 _ c.from_residual.ensures.1
    (weaker c.in_err-objects_of.field-0.0 _ _ (λ none. no_sequence c.args.levels e ((c.is_constructed.ensures c.args.content.now).0 c.if-is_constructed.true) none) c.in_err-objects_of.ensures.none)

pub content_of-returns-then-is_constructed-clause-found :
    goal.content_of-returns-then-is_constructed-clause-found
unfolding IsContent
content_of-returns-then-is_constructed-clause-found t c =
    rw at_sequence ((c.is_constructed.ensures c.args.content.now).0 c.if-is_constructed.true, c.in_ok-objects_of.ensures.found.1, c.in_ok-objects_of.ensures.found.0)

pub content_of-returns-in_err-objects_of-2-clause-none :
    goal.content_of-returns-in_err-objects_of-2-clause-none
content_of-returns-in_err-objects_of-2-clause-none t c =
    let e = element_under c.args.header c.args.content.now in
    passed_on c.from_residual-in_err-objects_of-2.result c.in_err-objects_of-2.field-0.0 _ c.from_residual-in_err-objects_of-2.ensures.1
    (weaker c.in_err-objects_of-2.field-0.0 _ _ (λ none. no_set c.args.levels e ((c.is_constructed-2.ensures c.args.content.now).0 c.if-is_constructed-2.true) none) c.in_err-objects_of-2.ensures.none)

pub content_of-returns-then-is_constructed-2-clause-found :
    goal.content_of-returns-then-is_constructed-2-clause-found
unfolding IsContent
content_of-returns-then-is_constructed-2-clause-found t c =
    rw at_set ((c.is_constructed-2.ensures c.args.content.now).0 c.if-is_constructed-2.true, c.in_ok-objects_of-2.ensures.found.1, c.in_ok-objects_of-2.ensures.found.0)

pub content_of-returns-then-is_constructed-clause-lengths :
    goal.content_of-returns-then-is_constructed-clause-lengths
content_of-returns-then-is_constructed-clause-lengths t c = held_sequence definite_length (length_of c.args.header) c.in_ok-objects_of.field-0 c.in_ok-objects_of.ensures.lengths

pub content_of-returns-then-is_constructed-2-clause-lengths :
    goal.content_of-returns-then-is_constructed-2-clause-lengths
content_of-returns-then-is_constructed-2-clause-lengths t c = held_set definite_length (length_of c.args.header) c.in_ok-objects_of-2.field-0 c.in_ok-objects_of-2.ensures.lengths

pub content_of-returns-in-Ok-clause-lengths : goal.content_of-returns-in-Ok-clause-lengths
content_of-returns-in-Ok-clause-lengths t c =
    held_leaf definite_length (length_of c.args.header) (element_under c.args.header c.args.content.now) c.in-Ok.leaf (content_view c.in-Ok.leaf) c.in-Ok.ensures.found c.in-Ok.ensures.lengths

pub content_of-returns-in-Ok-clause-found : goal.content_of-returns-in-Ok-clause-found
content_of-returns-in-Ok-clause-found t c =
    leaf_content c.args.levels (element_under c.args.header c.args.content.now) (content_view c.in-Ok.leaf) c.in-Ok.ensures.found

pub content_of-returns-in-Err-clause-none : goal.content_of-returns-in-Err-clause-none
content_of-returns-in-Err-clause-none t c =
    let e = element_under c.args.header c.args.content.now in
    let n = c.if-is_constructed.false in
    let m = c.if-is_constructed-2.false in
    let a : IsConstructed e 16 → ⊥ = λ p. let x = (c.is_constructed.ensures c.args.content.now).1 p in cc in
    let b : IsConstructed e 17 → ⊥ = λ p. let x = (c.is_constructed-2.ensures c.args.content.now).1 p in cc in
    (λ d p. c.in-Err.ensures.none.1 d (content_leaf c.args.levels e a b d p), c.in-Err.ensures.none.0)

pub objects_of-loop-rest-init : goal.objects_of-loop-rest-init
unfolding AreObjects
objects_of-loop-rest-init t c = rw c.new-objects.ensures.items (record { objects = tt; lengths = refl; each = omega arith; at_most = omega arith; so_far = refl; others = λ ts p e. (ts, p, e) })

pub objects_of-returns-in-Err-clause-none : goal.objects_of-returns-in-Err-clause-none
objects_of-returns-in-Err-clause-none t c =
    let passed = weaker c.in-Err.refusal _ _ (λ none ts p e.
    let us = c.loop-rest.invariant.others ts p e in
    none (objects_first c.args.levels us.0 c.loop-rest.rest.now (grind (arith, common_steps)) us.1 us.2)) c.in-Err.ensures.none in
    within_refuses _ c.in-Err.refusal _ _ (λ x y g. g) c.within.ensures passed

pub objects_of-loop-rest-smaller : goal.objects_of-loop-rest-smaller
objects_of-loop-rest-smaller t c =
    let found = c.in-Ok.ensures.found in
    let long = object_long c.args.levels (view c.in-Ok.read.1) found.0 in
    let less : length c.in-Ok.read.0.now < length c.loop-rest.rest.now = omega (arith, ap length found.1, length-append (octets (view c.in-Ok.read.1)) c.in-Ok.read.0.now, long) in
    less

pub objects_of-loop-rest-preserved : goal.objects_of-loop-rest-preserved
objects_of-loop-rest-preserved t c =
    let found = c.in-Ok.ensures.found in
    let before = c.loop-rest.objects.items in
    let last = c.in-Ok.read.1 in
    let after = c.in-Ok.read.0.now in
    rw (c.in_ok-push.ensures.items, c.in_ok-take_room.ensures.items) (record {
      objects = objects_push c.args.levels before last c.loop-rest.invariant.objects found.0;
      lengths = all_push definite_length before last c.loop-rest.invariant.lengths c.in-Ok.ensures.lengths;
      each = omega (arith, c.loop-rest.invariant.each, c.in-Ok.ensures.each, counts_push before last);
      at_most = omega (arith, c.loop-rest.invariant.at_most, c.in-Ok.ensures.each, count_bound (view last) c.args.levels found.0, ap length found.1, length-append (octets (view last)) after);
      so_far = c.loop-rest.invariant.so_far ∙ ap (λ z. all_octets (views before) ++ z) found.1 ∙ sym (append_assoc (all_octets (views before)) (octets (view last)) after) ∙ ap (λ z. z ++ after) (sym (views_push before last));
      others = λ ts p e.
          let us = c.loop-rest.invariant.others ts p e in
          objects_step c.args.levels us.0 c.loop-rest.rest.now after (view last) (grind (arith, common_steps)) found.0 found.1 us.1 us.2;
    })

pub parse_der_recursive_counted-returns-then-levels-eq0-clause-none :
    goal.parse_der_recursive_counted-returns-then-levels-eq0-clause-none
parse_der_recursive_counted-returns-then-levels-eq0-clause-none t c = (λ p. omega (arith, (object_parts c.args.levels p.0 p.2).level), λ e. cc)

pub parse_der_recursive_counted-returns-in_err-after-clause-none :
    goal.parse_der_recursive_counted-returns-in_err-after-clause-none
parse_der_recursive_counted-returns-in_err-after-clause-none t c =
    passed_on c.from_residual.result c.in_err-after.field-0.0 _ c.from_residual.ensures.1
    (refused c.in_err-after.field-0.0 _ c.in_err-after.ensures.memory (λ p. let has = object_cut c.args.levels c.args.i.now p in c.in_err-after.ensures.only has.2 has.0 has.1 has.3 has.4))

pub parse_der_recursive_counted-returns-in_err-after-clause-missing :
    goal.parse_der_recursive_counted-returns-in_err-after-clause-missing
parse_der_recursive_counted-returns-in_err-after-clause-missing t c =
    passed_on c.from_residual.result c.in_err-after.field-0.0 _ c.from_residual.ensures.1
    (missing_weaker c.in_err-after.field-0.0 c.args.i.now HasCut (BeginsWithObject c.args.levels) (object_cut c.args.levels) c.in_err-after.ensures.missing)

pub parse_der_recursive_counted-returns-in_err-content-clause-none :
    goal.parse_der_recursive_counted-returns-in_err-content-clause-none
parse_der_recursive_counted-returns-in_err-content-clause-none t c =
    let found = c.in_ok-after.ensures.found in
    let e = element_under c.in_ok-after.cut.header c.in_ok-after.cut.content.now in
    passed_on c.from_residual-in_err-content.result c.in_err-content.field-0.0 _ c.from_residual-in_err-content.ensures.1
    (weaker c.in_err-content.field-0.0 _ _ (λ none p.
    let holds = object_content c.args.levels c.args.i.now c.in_ok-after.cut.raw.now c.in_ok-after.after.now e found.0 found.2 p in
    none holds.0 holds.1) c.in_err-content.ensures.none)

pub parse_der_recursive_counted-returns-clause-found : goal.parse_der_recursive_counted-returns-clause-found
parse_der_recursive_counted-returns-clause-found t c =
    let found = c.in_ok-after.ensures.found in
    let o = c.new-object.result in
    let e = element_under c.in_ok-after.cut.header c.in_ok-after.cut.content.now in
    let head : head_of o.header ≡ head_of_element e = ap head_of c.new-object.ensures.header ∙ found.1 in
    let raw : o.raw.now ≡ c.in_ok-after.cut.raw.now = ap (λ (z : Bor (List ℕ)). z.now) c.new-object.ensures.raw in
    let read = object_read c.args.levels o e (content_view c.in_ok-content.content) (omega arith) head (subst (λ z. IsCut z e) (sym raw) found.0) (ap content_view c.new-object.ensures.content) c.in_ok-content.ensures.found in
    (read.0, found.2 ∙ ap (λ z. z ++ c.in_ok-after.after.now) (sym (read.1 ∙ raw)))

pub parse_der_recursive_counted-returns-then-is_empty-clause-none :
    goal.parse_der_recursive_counted-returns-then-is_empty-clause-none
parse_der_recursive_counted-returns-then-is_empty-clause-none t c =
    let empty : length c.args.i.now ≡ 0 = grind (arith, common_steps) in
    nothing_begins c.args.levels c.args.i.now empty

pub parse_der_recursive_counted-returns-then-is_empty-clause-missing :
    goal.parse_der_recursive_counted-returns-then-is_empty-clause-missing
parse_der_recursive_counted-returns-then-is_empty-clause-missing t c =
    let empty : length c.args.i.now ≡ 0 = grind (arith, common_steps) in (
      omega arith,
      λ more few. nothing_begins c.args.levels (c.args.i.now ++ more) (omega (arith, empty, length-append c.args.i.now more)),
    )

pub parse_der_recursive_counted-returns-clause-lengths : goal.parse_der_recursive_counted-returns-clause-lengths
parse_der_recursive_counted-returns-clause-lengths t c =
    let o = c.new-object.result in
    let definite = ap length_of c.new-object.ensures.header ∙ c.in_ok-after.ensures.definite in
    let held = ap lengths_within c.new-object.ensures.content ∙ c.in_ok-content.ensures.lengths
    ∙ ap (λ h. lengths_held definite_length (length_of h) (content_view c.in_ok-content.content)) (sym c.new-object.ensures.header)
    ∙ ap (λ z. lengths_held definite_length (length_of o.header) (content_view z)) (sym c.new-object.ensures.content) in
    told_made definite_length o o.header o.raw.now (content_view o.content) o.content (in_object o) (at_object o) (definite_told o.header o.raw.now _ definite) held

pub parse_der_recursive_counted-returns-clause-front : goal.parse_der_recursive_counted-returns-clause-front
parse_der_recursive_counted-returns-clause-front t c = λ level. front_whole (cut_at c.args.i.now) _ _ c.in_ok-after.ensures.exact tt

pub parse_der_recursive_counted-returns-in_err-after-clause-front :
    goal.parse_der_recursive_counted-returns-in_err-after-clause-front
parse_der_recursive_counted-returns-in_err-after-clause-front t c = λ level.
    front_refused (cut_at c.args.i.now) c.from_residual.result c.in_err-after.field-0.0 c.in_err-after.ensures.exact c.from_residual.ensures.1

pub parse_der_recursive_counted-returns-in_err-content-clause-front :
    goal.parse_der_recursive_counted-returns-in_err-content-clause-front
parse_der_recursive_counted-returns-in_err-content-clause-front t c = λ level.
    front_whole (cut_at c.args.i.now) _ _ c.in_ok-after.ensures.exact
    (passed_on c.from_residual-in_err-content.result c.in_err-content.field-0.0 IsNotCut c.from_residual-in_err-content.ensures.1 c.in_err-content.ensures.whole)

pub parse_der_recursive_counted-returns-then-is_empty-clause-front :
    goal.parse_der_recursive_counted-returns-then-is_empty-clause-front
parse_der_recursive_counted-returns-then-is_empty-clause-front t c = λ level.
    let empty : length c.args.i.now ≡ 0 = grind (arith, common_steps) in
    front_refused (cut_at c.args.i.now) _ _ (nothing_cut c.args.i.now empty) refl
