use Rattle.std.proofs.Common.{ℕ, ◌+◌, ◌∙◌, sym, subst, ap, get_or, List, length, ◌≡◌, ◌≤◌, ◌<◌, arith}
use Rattle.std.proofs.lemmas.List.{with_items_is}
use Rattle.smallvec.specs.SmallVec.{SmallVec}
use Rattle.cert_graph.specs.declared.nodes.Group.{Group}
use Rattle.cert_search.specs.Rising.{IsGroup, AreNoted}
use Rattle.cert_search.proofs.Placing.{PlacesBelow, lists_of, places_none, places_more, places_all}
use Rattle.cert_search.proofs.places.places_of.Goals as goal

pub loop-place-init : goal.loop-place-init
loop-place-init c = record { whole = omega (arith, c.in_ok-places.ensures.count); below = places_none c.args.nodes.now c.in_ok-places.places.items c.in_ok-places.ensures.empty }

pub loop-place-preserved : goal.loop-place-preserved
loop-place-preserved c =
    let nodes = c.args.nodes.now in
    let i = c.loop-place.place in
    let group = c.group-item.result in
    let is : IsGroup nodes i group = subst (λ (gs : List Group). (i < length gs) × (group ≡ get_or gs i group)) c.deref-group-items.ensures.value (c.loop-place-test.true, c.group-item.is) in
    let size : length c.note.new.places ≡ c.loop-place.places.len = c.note.auto.places ∙ c.deref_mut.ensures.len in
    let e = with_items_is c.loop-place.places c.note.new.places size in
    let noted : AreNoted nodes group i (lists_of c.loop-place.places.items) (lists_of c.note.new.places) =
    subst (λ (ls : List (SmallVec ℕ)). AreNoted nodes group i (lists_of ls) (lists_of c.note.new.places)) c.deref_mut.ensures.value c.in_ok-note.ensures in record {
      whole = ap length e ∙ c.note.auto.places ∙ ap length c.deref_mut.ensures.value ∙ c.loop-place.invariant.whole;
      below = subst (λ (ls : List (SmallVec ℕ)). PlacesBelow nodes (i + 1) (lists_of ls)) (sym e) (places_more nodes i group (lists_of c.loop-place.places.items) (lists_of c.note.new.places) is c.loop-place.invariant.below noted);
    }

pub returns : goal.returns
returns c =
    places_all c.args.nodes.now c.loop-place.place (lists_of c.loop-place.places.items)
    (subst (λ (gs : List Group). length gs ≤ c.loop-place.place) c.deref-group-items.ensures.value c.loop-place-test.false) c.loop-place.invariant.below
