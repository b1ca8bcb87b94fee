use Rattle.std.proofs.Common.{◌-◌, length-take, refl, sym, ◌∙◌, ap, subst, ◌+◌, ◌≤◌, ◌<◌, [], ◌∷◌, ◌++◌, length, arith}
use Rattle.std.specs.Prelude.{All}
use Rattle.std.proofs.lemmas.List.{map-append, length_push}
use Rattle.std.proofs.lemmas.List.Elements.{All-push}
use Rattle.asn1_core.proofs.Numbers.{octets_below}
use Rattle.asn1_any.specs.CutViews.{HasCountedContent, IsLongerThanContent, piece_of, pieces_of}
use Rattle.asn1_any.specs.Views.{any_of}
use Rattle.asn1_any.proofs.Cuts.{IsCutTo, cut_more, none_begins, is_read}
use Rattle.asn1_any.proofs.Long.{element_takes}
use Rattle.asn1_any.proofs.cut.cut_elements_counted.Goals as goal

pub elements-init : goal.elements-init
elements-init c =
    let none = c.new-items.ensures.items in
    let empty = ap length none in
    record {
      cut = subst (λ items. IsCutTo c.args.content.now (pieces_of items) c.args.content.now) (sym none) (record { whole = refl; each = tt });
      lengths = subst (All HasCountedContent) (sym none) (λ k d within. absurd (omega arith));
      longer = subst (All IsLongerThanContent) (sym none) (λ k d within. absurd (omega arith));
      below = octets_below c.args.content.now (λ k. omega (arith, c.type_inv.content k));
      counted = omega (arith, empty);
      most = omega arith;
    }

pub returns-in_default-clause-cut : goal.returns-in_default-clause-cut
returns-in_default-clause-cut c =
    let to = c.elements.invariant.cut in
    record { whole = to.whole; each = to.each; last = none_begins c.elements.tail.now c.in_default.field-0 c.in_default.ensures.exact }

pub overflow_sub-tail : goal.overflow_sub-tail
overflow_sub-tail c =
    let read = is_read c.elements.tail.now c.in-Ok.rest.now (any_of c.in-Ok.any) c.elements.invariant.below c.in-Ok.ensures.exact in
    let shorter = read.shorter in
    omega arith

pub elements-smaller : goal.elements-smaller
elements-smaller c =
    let read = is_read c.elements.tail.now c.in-Ok.rest.now (any_of c.in-Ok.any) c.elements.invariant.below c.in-Ok.ensures.exact in
    let shorter = read.shorter in
    let less : length c.in-Ok.rest.now < length c.elements.tail.now = omega arith in
    less

pub elements-preserved : goal.elements-preserved
elements-preserved c =
    let old = c.elements.items.items in
    let tail = c.elements.tail.now in
    let rest = c.in-Ok.rest.now in
    let element = any_of c.in-Ok.any in
    let read = is_read tail rest element c.elements.invariant.below c.in-Ok.ensures.exact in
    let shorter = read.shorter in
    let to = cut_more c.args.content.now (pieces_of old) tail rest element c.elements.invariant.cut read.begins in
    let pushed = c.in_ok-push.ensures.items in
    let pieces = ap pieces_of pushed ∙ map-append piece_of old _ ∙ ap (λ z. pieces_of old ++ (record { octets = z; element = element }) ∷ []) c.split_at.ensures.front in
    let long : length c.in-Ok.any.content.now + 2 ≤ length c.split_at.result.0.now = omega (arith, ap length c.split_at.ensures.front, length-take (length tail - length rest) tail, element_takes tail rest element read.begins) in
    let counted = c.elements.invariant.counted in
    let most = c.elements.invariant.most in
    let raised = c.in-Ok.ensures.count in
    let grown = ap length pushed ∙ length_push old _ in
    record {
      cut = subst (λ z. IsCutTo c.args.content.now z rest) (sym pieces) to;
      lengths = subst (All HasCountedContent) (sym pushed) (All-push HasCountedContent old _ c.elements.invariant.lengths c.in-Ok.ensures.length);
      longer = subst (All IsLongerThanContent) (sym pushed) (All-push IsLongerThanContent old _ c.elements.invariant.longer long);
      below = read.below;
      counted = omega (arith, counted, raised, grown);
      most = omega (arith, most, raised, shorter);
    }
