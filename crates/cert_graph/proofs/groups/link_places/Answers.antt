use Rattle.std.proofs.Common.{◌≡◌, ◌+◌, ◌<◌, ℕ, Contains, false, sym, subst}
use Rattle.std.specs.Prelude.{◌↔◌, is_some}
use Rattle.std.specs.List.Sorted.{IsStrictlyIncreasing}
use Rattle.std.proofs.lemmas.List.Elements.{All-contains}
use Rattle.cert_graph.specs.declared.places.Part.TheVariants.{Id}
use Rattle.cert_graph.specs.Places.{text_at}
use Rattle.cert_graph.specs.Links.{Adds, IsIdLink}
use Rattle.cert_graph.proofs.Adding.{adds_then, adds_as}
use Rattle.cert_graph.proofs.Placing.{all_below, joined_ascends, kinds_iff, anchor_kinds_iff}
use Rattle.cert_graph.proofs.groups.link_places.Goals as goal

pub push_group-requires-clause-members_within : goal.push_group-requires-clause-members_within
push_group-requires-clause-members_within c = all_below c.args.items c.in_ok-members.members.items (λ w h. ((c.in_ok-members.ensures.exact w).0 h).1)

pub push_group-requires-clause-issued_within : goal.push_group-requires-clause-issued_within
push_group-requires-clause-issued_within c = all_below c.args.items c.in_ok-unnamed.unnamed.items (λ v h. All-contains (λ v. v < c.args.items) c.args.linked.now v c.requires.linked_within ((c.in_ok-unnamed.ensures.exact v).0 h).0)

pub push_group-requires-3-clause-members_within : goal.push_group-requires-3-clause-members_within
push_group-requires-3-clause-members_within c = all_below c.args.items c.in_ok-unowned-2.unowned.items (λ w h. ((c.in_ok-unowned-2.ensures.exact w).0 h).1)

pub push_group-requires-3-clause-issued_within : goal.push_group-requires-3-clause-issued_within
push_group-requires-3-clause-issued_within c = all_below c.args.items c.in_ok-named.named.items (λ v h. All-contains (λ v. v < c.args.items) c.args.linked.now v c.requires.linked_within ((c.in_ok-named.ensures.exact v).0 h).0)

pub link_ids-requires : goal.link_ids-requires
link_ids-requires c =
    subst IsStrictlyIncreasing (sym c.deref-2.ensures.value) (subst IsStrictlyIncreasing (sym c.in_ok-places.ensures) (joined_ascends c.args.linked.now c.args.holders.now c.args.items c.requires.linked_ascend c.requires.holders_ascend c.requires.linked_within c.requires.holders_behind))

pub returns : goal.returns
returns c =
    let all = c.args.all.now in
    let n = c.args.items in
    let linked = c.args.linked.now in
    let holders = c.args.holders.now in
    let unnamed = c.in_ok-unnamed.unnamed.items in
    let named = c.in_ok-named.named.items in
    let everyone = c.in_ok-everyone.everyone.items in
    let unowned = c.in_ok-unowned-2.unowned.items in
    let members = c.in_ok-members.members.items in
    let anchors = c.in_ok-anchors.anchors.items in
    let g0 = c.args.groups.now.items in
    let g1 = c.push_group.new.groups.items in
    let g2 = c.push_group-2.new.groups.items in
    let g3 = c.push_group-3.new.groups.items in
    let g4 = c.link_ids.new.groups.items in
    let one = subst (λ l. Adds n g0 g1 (λ v w. Contains unnamed v × Contains members w) (λ v a. Contains unnamed v × Contains l a)) c.new.ensures.items c.in_ok-push_group.ensures in
    let two = subst (λ l. Adds n g1 g2 (λ v w. Contains everyone v × Contains l w) (λ v a. Contains everyone v × Contains anchors a)) c.new-2.ensures.items c.in_ok-push_group-2.ensures in
    let three = subst (λ l. Adds n g2 g3 (λ v w. Contains named v × Contains unowned w) (λ v a. Contains named v × Contains l a)) c.new-3.ensures.items c.in_ok-push_group-3.ensures in
    let four = subst (λ l. Adds n g3 g4 (IsIdLink all n l) (λ v a. ⊥)) c.in_ok-places.ensures (subst (λ l. Adds n g3 g4 (IsIdLink all n l) (λ v a. ⊥)) c.deref-2.ensures.value c.in_ok-link_ids.ensures) in
    let first = c.in_ok-unowned.ensures.exact in
    let o : (w : ℕ) → Contains unowned w ↔ ((Contains holders (n + w) × (is_some (text_at Id all (n + w)) ≡ false)) × (w < n)) =
    λ w.
    let x = subst (λ l. Contains unowned w ↔ (Contains l (n + w) × (w < n))) c.deref.ensures.value (c.in_ok-unowned-2.ensures.exact w) in
    let y = first (n + w) in
    (λ h. let z = x.0 h in (y.0 z.0, z.1), λ h. x.1 (y.1 h.0, h.1)) in
    let low = c.requires.linked_within in
    let high = c.requires.holders_behind in
    let u = c.in_ok-unnamed.ensures.exact in
    let d = c.in_ok-named.ensures.exact in
    let s = c.in_ok-members.ensures.exact in
    let e = c.in_ok-everyone.ensures.items in
    let h = c.in_ok-anchors.ensures.exact in
    adds_as n g0 g4 _ _ _ _ (adds_then n g0 g3 g4 _ _ _ _ (adds_then n g0 g2 g3 _ _ _ _ (adds_then n g0 g1 g2 _ _ _ _ one two) three) four)
    (kinds_iff all n c.args.anchors linked holders unnamed named everyone unowned members anchors low high u d o s e h)
    (anchor_kinds_iff all n c.args.anchors linked holders unnamed named everyone unowned members anchors low high u d o s e h)
