use Rattle.std.proofs.Common.{◌≡◌, ◌∙◌, sym, subst, map, arith, Some, None}
use Rattle.std.specs.Prelude.{All}
use Rattle.std.proofs.lemmas.List.{map-append}
use Rattle.std.proofs.lemmas.List.Elements.{All-push}
use Rattle.asn1_any.specs.CutViews.{piece_of}
use Rattle.x509_ext.specs.Fields.{reading_of}
use Rattle.x509_core.specs.Reading.{first_piece}
use Rattle.x509_core.proofs.Many.{next_more, next_stops, next_ends, refused_by}
use Rattle.x509_lists.specs.Reading.{entry_in}
use Rattle.x509_lists.specs.View.{entry_view, HasSerial, IsCountedEntry, EntryWantsNoMemory}
use Rattle.x509_lists.proofs.entries.each_entry.Goals as goal

pub loop-element-preserved : goal.loop-element-preserved
loop-element-preserved c =
    let e = piece_of c.in-Some.element in
    let front : first_piece c.loop-element.parts.octets ≡ Some e = sym c.in-Some.ensures.read in
    let shorter = c.advance.ensures.shorter e front in
    let content = c.in-Some.ensures.content in
    let most = c.in-Ok.ensures.most in
    let grows = c.in-Ok.ensures.grows in
    let step = next_more (λ p. entry_in (reading_of c.args.deep) p.element) (map entry_view c.loop-element.entries.items) c.loop-element.parts.octets c.advance.new.self.octets e (entry_view c.in-Ok.entry) front c.advance.ensures.read c.in-Ok.ensures.read (omega (arith, shorter, content)) in
    record {
      read = rw (c.in_ok-push_in_room-in-Ok.ensures.items, map-append) (sym step ∙ c.loop-element.invariant.read);
      serials = subst (All HasSerial) (sym c.in_ok-push_in_room-in-Ok.ensures.items) (All-push HasSerial c.loop-element.entries.items _ c.loop-element.invariant.serials c.in-Ok.ensures.serial);
      counted = subst (All IsCountedEntry) (sym c.in_ok-push_in_room-in-Ok.ensures.items) (All-push IsCountedEntry c.loop-element.entries.items _ c.loop-element.invariant.counted c.in-Ok.ensures.counted);
      memory = subst (All EntryWantsNoMemory) (sym c.in_ok-push_in_room-in-Ok.ensures.items) (All-push EntryWantsNoMemory c.loop-element.entries.items _ c.loop-element.invariant.memory c.in-Ok.ensures.memory);
      grows = omega (arith, grows, c.loop-element.invariant.grows);
      shorter = omega (arith, shorter, c.loop-element.invariant.shorter);
      most = omega (arith, most, shorter, content, c.loop-element.invariant.most);
    }

pub returns-in_default-refusal : goal.returns-in_default-refusal
returns-in_default-refusal c =
    let e = piece_of c.in-Some.element in
    let refused = refused_by c.in-Err.refusal (entry_in (reading_of c.args.deep) e.element) c.in-Err.ensures.read (λ x is. c.in_default-refusal.not-Failure x is) in
    let stop = next_stops (λ p. entry_in (reading_of c.args.deep) p.element) (map entry_view c.loop-element.entries.items) c.loop-element.parts.octets e refused.0 (sym c.in-Some.ensures.read) refused.1 in
    let most = c.in-Err.ensures.most in
    let grows = c.in-Err.ensures.grows in
    let content = c.in-Some.ensures.content in
    let shorter = c.in-Some.ensures.shorter in
    record {
      read = sym c.loop-element.invariant.read ∙ stop;
      serials = c.loop-element.invariant.serials;
      counted = c.loop-element.invariant.counted;
      memory = c.loop-element.invariant.memory;
      grows = omega (arith, grows, c.loop-element.invariant.grows);
      shorter = omega (arith, c.loop-element.invariant.shorter);
      most = omega (arith, most, content, shorter, c.loop-element.invariant.most);
    }

pub returns-clause-read : goal.returns-clause-read
returns-clause-read c =
    let none : first_piece c.loop-element.parts.octets ≡ None = sym c.in_default.ensures.read in
    sym c.loop-element.invariant.read ∙ next_ends (λ p. entry_in (reading_of c.args.deep) p.element) (map entry_view c.loop-element.entries.items) c.loop-element.parts.octets none
