use Rattle.std.proofs.Common.{◌≡◌, ◌∙◌, sym, subst, map, arith, Some, None}
use Rattle.std.specs.Prelude.{All}
use Rattle.std.proofs.lemmas.List.{map-append}
use Rattle.std.proofs.lemmas.List.Elements.{All-push}
use Rattle.asn1_any.specs.CutViews.{piece_of}
use Rattle.x509_core.specs.Reading.{first_piece}
use Rattle.x509_core.proofs.Many.{next_more, next_stops, next_ends, refused_by}
use Rattle.x509_names.specs.Reading.{relative_name_in}
use Rattle.x509_names.specs.View.{HasCountedValues, set_view}
use Rattle.x509_names.proofs.name.relative_names_of.Goals as goal

pub loop-element-preserved : goal.loop-element-preserved
loop-element-preserved c =
    let e = piece_of c.in-Some.element in
    let front : first_piece c.loop-element.parts.octets ≡ Some e = sym c.in-Some.ensures.read in
    let shorter = c.advance.ensures.shorter e front in
    let content = c.in-Some.ensures.content in
    let most = c.in-Ok.ensures.most in
    let grows = c.in-Ok.ensures.grows in
    let step = next_more (λ p. relative_name_in p.element) (map set_view c.loop-element.sets.items) c.loop-element.parts.octets c.advance.new.self.octets e (set_view c.in-Ok.set) front c.advance.ensures.read c.in-Ok.ensures.read (omega (arith, shorter, content)) in
    record {
      read = rw (c.in_ok-push-in-Ok.ensures.items, map-append) (sym step ∙ c.loop-element.invariant.read);
      counted = subst (All HasCountedValues) (sym c.in_ok-push-in-Ok.ensures.items) (All-push HasCountedValues c.loop-element.sets.items _ c.loop-element.invariant.counted c.in-Ok.ensures.counted);
      grows = omega (arith, grows, c.loop-element.invariant.grows);
      shorter = omega (arith, shorter, c.loop-element.invariant.shorter);
      most = omega (arith, most, shorter, content, c.loop-element.invariant.most);
    }

pub returns-in_default-refusal : goal.returns-in_default-refusal
returns-in_default-refusal c =
    let e = piece_of c.in-Some.element in
    let refused = refused_by c.in-Err.refusal (relative_name_in e.element) c.in-Err.ensures.read (λ x is. c.in_default-refusal.not-Failure x is) in
    let stop = next_stops (λ p. relative_name_in p.element) (map set_view c.loop-element.sets.items) c.loop-element.parts.octets e refused.0 (sym c.in-Some.ensures.read) refused.1 in
    let most = c.in-Err.ensures.most in
    let grows = c.in-Err.ensures.grows in
    let content = c.in-Some.ensures.content in
    let shorter = c.in-Some.ensures.shorter in
    record {
      read = sym c.loop-element.invariant.read ∙ stop;
      counted = c.loop-element.invariant.counted;
      grows = omega (arith, grows, c.loop-element.invariant.grows);
      shorter = omega (arith, c.loop-element.invariant.shorter);
      most = omega (arith, most, content, shorter, c.loop-element.invariant.most);
    }

pub returns-clause-read : goal.returns-clause-read
returns-clause-read c =
    let none : first_piece c.loop-element.parts.octets ≡ None = sym c.in_default.ensures.read in
    sym c.loop-element.invariant.read ∙ next_ends (λ p. relative_name_in p.element) (map set_view c.loop-element.sets.items) c.loop-element.parts.octets none
