use Rattle.std.proofs.Common.{◌≡◌, ◌∙◌, sym, subst, map, arith, Some, None}
use Rattle.std.specs.Prelude.{All}
use Rattle.std.proofs.lemmas.List.{map-append}
use Rattle.std.proofs.lemmas.List.Elements.{All-push}
use Rattle.asn1_any.specs.CutViews.{piece_of}
use Rattle.x509_ext.specs.Fields.{reading_of}
use Rattle.x509_core.specs.Reading.{first_piece}
use Rattle.x509_core.proofs.Many.{next_more, next_stops, next_ends, refused_by}
use Rattle.x509_ext.specs.Reading.{extension_in}
use Rattle.x509_ext.specs.View.{extension_view, IsCountedExtension, WantsNoMemory}
use Rattle.x509_ext.proofs.list.each_extension.Goals as goal

pub loop-element-preserved : goal.loop-element-preserved
loop-element-preserved c =
    let e = piece_of c.in-Some.element in
    let front : first_piece c.loop-element.parts.octets ≡ Some e = sym c.in-Some.ensures.read in
    let shorter = c.advance.ensures.shorter e front in
    let content = c.in-Some.ensures.content in
    let most = c.in-Ok.ensures.most in
    let grows = c.in-Ok.ensures.grows in
    let step = next_more (λ p. extension_in (reading_of c.args.deep) p.element) (map extension_view c.loop-element.extensions.items) c.loop-element.parts.octets c.advance.new.self.octets e (extension_view c.in-Ok.extension) front c.advance.ensures.read c.in-Ok.ensures.read (omega (arith, shorter, content)) in
    record {
      read = rw (c.in_ok-push_in_room-in-Ok.ensures.items, map-append) (sym step ∙ c.loop-element.invariant.read);
      counted = subst (All IsCountedExtension) (sym c.in_ok-push_in_room-in-Ok.ensures.items) (All-push IsCountedExtension c.loop-element.extensions.items _ c.loop-element.invariant.counted c.in-Ok.ensures.counted);
      memory = subst (All WantsNoMemory) (sym c.in_ok-push_in_room-in-Ok.ensures.items) (All-push WantsNoMemory c.loop-element.extensions.items _ c.loop-element.invariant.memory c.in-Ok.ensures.memory);
      grows = omega (arith, grows, c.loop-element.invariant.grows);
      shorter = omega (arith, shorter, c.loop-element.invariant.shorter);
      most = omega (arith, most, shorter, content, c.loop-element.invariant.most);
    }

pub returns-in_default-refusal : goal.returns-in_default-refusal
returns-in_default-refusal c =
    let e = piece_of c.in-Some.element in
    let refused = refused_by c.in-Err.refusal (extension_in (reading_of c.args.deep) e.element) c.in-Err.ensures.read (λ x is. c.in_default-refusal.not-Failure x is) in
    let stop = next_stops (λ p. extension_in (reading_of c.args.deep) p.element) (map extension_view c.loop-element.extensions.items) c.loop-element.parts.octets e refused.0 (sym c.in-Some.ensures.read) refused.1 in
    let most = c.in-Err.ensures.most in
    let grows = c.in-Err.ensures.grows in
    let content = c.in-Some.ensures.content in
    let shorter = c.in-Some.ensures.shorter in
    let kept = c.shrink_to_fit.ensures.items in
    record {
      read = rw kept (sym c.loop-element.invariant.read ∙ stop);
      counted = subst (All IsCountedExtension) (sym kept) c.loop-element.invariant.counted;
      memory = subst (All WantsNoMemory) (sym kept) c.loop-element.invariant.memory;
      grows = omega (arith, grows, c.loop-element.invariant.grows);
      shorter = omega (arith, c.loop-element.invariant.shorter);
      most = omega (arith, most, content, shorter, c.loop-element.invariant.most);
    }

pub returns-clause-read : goal.returns-clause-read
returns-clause-read c =
    let none : first_piece c.loop-element.parts.octets ≡ None = sym c.in_default.ensures.read in
    sym c.loop-element.invariant.read ∙ next_ends (λ p. extension_in (reading_of c.args.deep) p.element) (map extension_view c.loop-element.extensions.items) c.loop-element.parts.octets none
