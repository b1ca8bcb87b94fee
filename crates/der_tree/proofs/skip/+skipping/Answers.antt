use Rattle.std.proofs.Common.{◌≡◌, ◌∙◌, ap, refl, ◌<◌, ◌++◌, length, arith, length-append}
use Rattle.std.proofs.lemmas.Grind.{common_steps}
use Rattle.std.proofs.lemmas.List.{nil_from_length}
use Rattle.asn1_core.specs.Elements.{head_of_element}
use Rattle.asn1_core.specs.Counts.{attempts}
use Rattle.der_tree.specs.Table.{IsConstructed}
use Rattle.der_tree.specs.Tree.{node, sequence, set, none, more, octets}
use Rattle.der_tree.specs.Shape.{IsContent, AreObjects}
use Rattle.der_tree.specs.View.{element_under}
use Rattle.der_tree.proofs.Objects.{leaf_content, content_leaf, object_parts, object_made, object_long, objects_step, objects_first}
use Rattle.der_tree.proofs.Reading.{object_cut, object_content, count_bound, nothing_begins}
use Rattle.der_tree.proofs.Skipped.{sequence_parts, set_parts, no_parts}
use Rattle.der_tree.proofs.skip.+skipping.Goals as goal

pub are_objects-loop-rest-init : goal.are_objects-loop-rest-init
are_objects-loop-rest-init t c = record { at_most = omega arith; grows = omega arith; so_far = λ us p e. (us, p, e, refl); others = λ ts p e. (ts, p, e) }

pub are_objects-loop-rest-smaller : goal.are_objects-loop-rest-smaller
are_objects-loop-rest-smaller t c =
    let found = c.in-Some.ensures.skipped in
    let long = object_long c.args.levels found.0 found.1 in
    let less : length c.in-Some.after.now < length c.loop-rest.rest.now = omega (arith, ap length found.2, length-append (octets found.0) c.in-Some.after.now, long) in
    less

pub are_objects-loop-rest-preserved : goal.are_objects-loop-rest-preserved
unfolding AreObjects
are_objects-loop-rest-preserved t c =
    let found = c.in-Some.ensures.skipped in
    let after = c.in-Some.after.now in record {
      at_most = omega (arith, c.loop-rest.invariant.at_most, found.3, count_bound found.0 c.args.levels found.1, ap length found.2, length-append (octets found.0) after);
      grows = omega (arith, c.loop-rest.invariant.grows, found.3);
      so_far = λ us p e.
          let all = c.loop-rest.invariant.so_far (more found.0 us) (found.1, p) (found.2 ∙ ap (λ z. octets found.0 ++ z) e) in
          (all.0, all.1, all.2, omega (arith, all.3, found.3));
      others = λ ts p e.
          let us = c.loop-rest.invariant.others ts p e in
          objects_step c.args.levels us.0 c.loop-rest.rest.now after found.0 (grind (arith, common_steps)) found.1 found.2 us.1 us.2;
    }

pub are_objects-returns-in-None-clause-only : goal.are_objects-returns-in-None-clause-only
are_objects-returns-in-None-clause-only t c = λ ts p e.
    let us = c.loop-rest.invariant.others ts p e in
    absurd (c.in-None.ensures.skipped (objects_first c.args.levels us.0 c.loop-rest.rest.now (grind (arith, common_steps)) us.1 us.2))

pub are_objects-returns-clause-found : goal.are_objects-returns-clause-found
unfolding AreObjects
are_objects-returns-clause-found t c = λ yes.
    let empty : length c.loop-rest.rest.now ≡ 0 = grind (arith, common_steps) in
    let all = c.loop-rest.invariant.so_far none tt (nil_from_length c.loop-rest.rest.now empty) in
    (all.0, all.1, all.2, omega (arith, all.3))

pub is_content-returns-then-is_constructed-clause-found :
    goal.is_content-returns-then-is_constructed-clause-found
unfolding IsContent
is_content-returns-then-is_constructed-clause-found t c = λ yes.
    let all = c.are_objects.ensures.found yes in
    (sequence all.0, ((c.is_constructed.ensures c.args.content.now).0 c.if-is_constructed.true, all.2, all.1), all.3)

pub is_content-returns-then-is_constructed-clause-only :
    goal.is_content-returns-then-is_constructed-clause-only
is_content-returns-then-is_constructed-clause-only t c = λ d p.
    let e = element_under c.args.header c.args.content.now in
    let parts = sequence_parts c.args.levels e ((c.is_constructed.ensures c.args.content.now).0 c.if-is_constructed.true) d p in
    c.are_objects.ensures.only parts.0 parts.1 parts.2

pub is_content-returns-then-is_constructed-2-clause-found :
    goal.is_content-returns-then-is_constructed-2-clause-found
unfolding IsContent
is_content-returns-then-is_constructed-2-clause-found t c = λ yes.
    let all = c.are_objects-then-is_constructed-2.ensures.found yes in
    (set all.0, ((c.is_constructed-2.ensures c.args.content.now).0 c.if-is_constructed-2.true, all.2, all.1), all.3)

pub is_content-returns-then-is_constructed-2-clause-only :
    goal.is_content-returns-then-is_constructed-2-clause-only
is_content-returns-then-is_constructed-2-clause-only t c = λ d p.
    let e = element_under c.args.header c.args.content.now in
    let parts = set_parts c.args.levels e ((c.is_constructed-2.ensures c.args.content.now).0 c.if-is_constructed-2.true) d p in
    c.are_objects-then-is_constructed-2.ensures.only parts.0 parts.1 parts.2

pub is_content-returns-clause-found : goal.is_content-returns-clause-found
is_content-returns-clause-found t c = λ yes.
    let held = c.is_leaf.ensures.found yes in
    let e = element_under c.args.header c.args.content.now in
    (held.0, leaf_content c.args.levels e held.0 held.1, no_parts e held.0 held.1 (attempts c.args.count.now))

pub is_content-returns-clause-only : goal.is_content-returns-clause-only
is_content-returns-clause-only t c = λ d p.
    let e = element_under c.args.header c.args.content.now in
    let n = c.if-is_constructed.false in
    let m = c.if-is_constructed-2.false in
    let a : IsConstructed e 16 → ⊥ = λ q. let x = (c.is_constructed.ensures c.args.content.now).1 q in cc in
    let b : IsConstructed e 17 → ⊥ = λ q. let x = (c.is_constructed-2.ensures c.args.content.now).1 q in cc in
    c.is_leaf.ensures.only d (content_leaf c.args.levels e a b d p)

pub skip_element-returns-then-levels-eq0-clause-skipped :
    goal.skip_element-returns-then-levels-eq0-clause-skipped
skip_element-returns-then-levels-eq0-clause-skipped t c = λ p. omega (arith, (object_parts c.args.levels p.0 p.2).level)

pub skip_element-returns-then-is_empty-clause-skipped :
    goal.skip_element-returns-then-is_empty-clause-skipped
skip_element-returns-then-is_empty-clause-skipped t c =
    let empty : length c.args.i.now ≡ 0 = grind (arith, common_steps) in
    nothing_begins c.args.levels c.args.i.now empty

pub skip_element-returns-then-is_content-clause-skipped :
    goal.skip_element-returns-then-is_content-clause-skipped
skip_element-returns-then-is_content-clause-skipped t c =
    let cut = c.in-Ok.ensures.found in
    let e = element_under c.in-Ok.cut.header c.in-Ok.cut.content.now in
    let held = c.is_content.ensures.found c.if-is_content.true in (
      node (head_of_element e) c.in-Ok.cut.raw.now held.0,
      object_made c.args.levels e c.in-Ok.cut.raw.now held.0 (omega arith) cut.0 held.1,
      cut.2,
      omega (arith, c.in-Ok.ensures.count, held.2),
    )

pub skip_element-returns-else-is_content-clause-skipped :
    goal.skip_element-returns-else-is_content-clause-skipped
skip_element-returns-else-is_content-clause-skipped t c = λ p.
    let cut = c.in-Ok.ensures.found in
    let e = element_under c.in-Ok.cut.header c.in-Ok.cut.content.now in
    let holds = object_content c.args.levels c.args.i.now c.in-Ok.cut.raw.now c.in-Ok.after.now e cut.0 cut.2 p in
    let x = c.is_content.ensures.only holds.0 holds.1 in
    let y = c.if-is_content.false in
    cc

pub skip_element-returns-in-Err-clause-skipped :
    goal.skip_element-returns-in-Err-clause-skipped
skip_element-returns-in-Err-clause-skipped t c = λ p.
    let has = object_cut c.args.levels c.args.i.now p in
    c.in-Err.ensures.only has.2 has.0 has.1 has.3 has.4
