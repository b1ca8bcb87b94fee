use Rattle.std.proofs.Common.{ℕ, ◌+◌, ◌∙◌, sym, subst, ap, get_or, List, length, ◌≡◌, ◌≤◌, ◌<◌, Vec, Global}
use Rattle.cert_graph.specs.declared.nodes.Group.{Group}
use Rattle.cert_search.specs.Rising.{IsGroup}
use Rattle.cert_search.proofs.Placing.{AnchoredBelow, anchored_more, unanchored_more, anchored_all}
use Rattle.cert_search.proofs.places.anchored_of.Goals as goal
use Rattle.cert_search.proofs.places.anchored_of.Goals.{then-has_anchor+in_ok-push, else-has_anchor}

pub loop-place-preserved : goal.loop-place-preserved
loop-place-preserved c =
    let nodes = c.args.nodes.now in
    let i = c.loop-place.place in
    let group = c.group-item.result in
    let is : IsGroup nodes i group = subst (λ (gs : List Group). (i < length gs) × (group ≡ get_or gs i group)) c.deref-group-items.ensures.value (c.loop-place-test.true, c.group-item.is) in
    elim c.if-has_anchor.branch [
      | then-has_anchor+in_ok-push w ↦
          subst (λ (xs : List ℕ). AnchoredBelow nodes (i + 1) xs) (sym (ap (λ (xs : Vec ℕ Global). xs.items) w.anchored-is ∙ w.in_ok-push.ensures.items))
          (anchored_more nodes i group c.loop-place.anchored.items is (c.has_anchor.ensures.0 w.if-has_anchor.true) c.loop-place.invariant)
      | else-has_anchor w ↦
          subst (λ (xs : Vec ℕ Global). AnchoredBelow nodes (i + 1) xs.items) (sym w.anchored-is)
          (unanchored_more nodes i group c.loop-place.anchored.items is (λ h. cc (w.if-has_anchor.false, c.has_anchor.ensures.1 h)) c.loop-place.invariant)
    ]

pub returns : goal.returns
returns c =
    anchored_all c.args.nodes.now c.loop-place.place c.loop-place.anchored.items
    (subst (λ (gs : List Group). length gs ≤ c.loop-place.place) c.deref-group-items.ensures.value c.loop-place-test.false) c.loop-place.invariant
