-- What is tested group by group is what the graph says link by link.
use Rattle.std.proofs.Common.{ℕ, ◌+◌, ◌<◌, not, cond, List, [], ◌∷◌, ◌++◌, length, take, get_or, arith, sym, subst, inl, inr}
use Rattle.std.specs.Prelude.{◌↔◌, ◌⊎◌, All, Any, Contains}
use Rattle.std.proofs.lemmas.List.{take_more}
use Rattle.std.proofs.lemmas.List.Elements.{All-contains, Contains-get_or, Contains-append_left, Contains-push, Contains-push_cases}
use Rattle.cert_graph.specs.declared.reach.Reach.{Reach}
use Rattle.cert_graph.specs.declared.nodes.Group.{Group}
use Rattle.cert_graph.specs.declared.nodes.Nodes.{Nodes}
use Rattle.cert_graph.specs.Reach.{Takes, lesser}
use Rattle.cert_graph.specs.Adequate.{at_row, passed_by, HasAnchored, HasAnchoredAt, IsSuccessor}
use Rattle.cert_graph.specs.Steps.{MayTake}
use Rattle.cert_graph.specs.Nodes.{graph_of, HasLink, HasAnchorLink, Links, LinksToAnchor}
use Rattle.cert_graph.specs.Groups.{HasSomeAnchor, HasAnchorBelow, HoldsLimit, HoldsLimits, HoldsEachLimit, IsOffered, HoldsPassed, HoldsAllPassed, FollowsRow, IsOpenBelow, HasOpenBelow}
use Rattle.cert_graph.proofs.ReachFacts.{more_takes, lesser_takes, lesser_left, lesser_right, passed_takes, passed_back, at_most_from_takes}
use Rattle.cert_graph.proofs.PlacesOfNodes.{any_at, meet}

-- anchors
pub anchor_some : (nodes : Nodes) (v : ℕ) → Any (HasSomeAnchor v) nodes.groups.items ↔ ((a : ℕ) × LinksToAnchor nodes v a)
unfolding HasSomeAnchor LinksToAnchor
anchor_some nodes v = (
  λ e. (get_or e.1.anchors.items 0 0, (e.0, e.1, e.2, e.3, record { issued = e.4.0; anchor = Contains-get_or e.1.anchors.items 0 0 e.4.1 })),
  λ x. let e = x.1 in let at = e.4.anchor in (e.0, e.1, e.2, e.3, (e.4.issued, omega (arith, at.1))),
)

pub anchor_below : (nodes : Nodes) (v bound : ℕ) → Any (HasAnchorBelow v bound) nodes.groups.items ↔ ((a : ℕ) × (a < bound) × LinksToAnchor nodes v a)
unfolding HasAnchorBelow LinksToAnchor
anchor_below nodes v bound = (
  λ e. let b = e.4.1 in (b.1, b.4, (e.0, e.1, e.2, e.3, record { issued = e.4.0; anchor = (b.0, b.2, b.3) })),
  λ x. let e = x.2 in let at = e.4.anchor in (e.0, e.1, e.2, e.3, (e.4.issued, (at.0, x.0, at.1, at.2, x.1))),
)

-- the row's limits at those with anchors
pub anchored_iff : (nodes : Nodes) (row : List Reach) → HoldsEachLimit nodes row ↔ HasAnchored (graph_of nodes) row
unfolding HoldsEachLimit HoldsLimits HoldsLimit HasAnchoredAt LinksToAnchor
anchored_iff nodes row = (
  λ h v a fit e.
      let m = meet (HoldsLimits nodes row) (HasAnchorLink v a) nodes.groups.items h e in
      let at = m.2.anchor in
      All-contains (HoldsLimit nodes row) m.0.issued.items v (m.1 (omega (arith, at.1))) m.2.issued fit,
  λ k i d within some j u below fit.
      let g = get_or nodes.groups.items i d in
      k (get_or g.issued.items j u) (get_or g.anchors.items 0 0) fit
      (any_at (HasAnchorLink (get_or g.issued.items j u) (get_or g.anchors.items 0 0)) nodes.groups.items i d within
      (record { issued = Contains-get_or g.issued.items j u below; anchor = Contains-get_or g.anchors.items 0 0 some })),
)

-- what one row lets through, held by the next
pub successor_iff : (nodes : Nodes) (r s : List Reach) → FollowsRow nodes r s ↔ IsSuccessor (graph_of nodes) r s
unfolding FollowsRow HoldsAllPassed HoldsPassed Links
successor_iff nodes r s = (
  λ h v w fv fw e.
      let m = meet (HoldsAllPassed nodes r s) (HasLink v w) nodes.groups.items h e in
      All-contains (HoldsPassed nodes s (at_row r w)) m.0.issued.items v (m.1 w m.2.member fw) m.2.issued fv,
  λ k i d within w member fw j u below fv.
      let g = get_or nodes.groups.items i d in
      k (get_or g.issued.items j u) w fv fw
      (any_at (HasLink (get_or g.issued.items j u) w) nodes.groups.items i d within (record { issued = Contains-get_or g.issued.items j u below; member = member })),
)

-- what the best of a group's members lets through is what each of them does
pub passed_each : (nodes : Nodes) (row next : List Reach) (members : List ℕ) (best : Reach) (v : ℕ) → ((c : ℕ) → Takes best c ↔ IsOffered nodes row members c)
    → HoldsPassed nodes next best v ↔ ((w : ℕ) → Contains members w → (graph_of nodes).Fit w → HoldsPassed nodes next (at_row row w) v)
unfolding HoldsPassed
passed_each nodes row next members best v offers =
    let self = (graph_of nodes).self_issued v in
    let limit = (graph_of nodes).limit v in
    let more = cond (not self) 1 0 in (
      λ h w member fw fv. at_most_from_takes (lesser limit (passed_by (graph_of nodes) v (at_row row w))) (at_row next v)
          (λ c t. more_takes (lesser limit (passed_by (graph_of nodes) v best)) (at_row next v) c (h fv)
          (lesser_takes limit (passed_by (graph_of nodes) v best) c (lesser_left limit (passed_by (graph_of nodes) v (at_row row w)) c t)
          (passed_takes self best c ((offers (c + more)).1 (w, member, fw, passed_back self (at_row row w) c (lesser_right limit (passed_by (graph_of nodes) v (at_row row w)) c t)))))),
      λ k fv. at_most_from_takes (lesser limit (passed_by (graph_of nodes) v best)) (at_row next v)
          (λ c t. let x = (offers (c + more)).0 (passed_back self best c (lesser_right limit (passed_by (graph_of nodes) v best) c t)) in
          more_takes (lesser limit (passed_by (graph_of nodes) v (at_row row x.0))) (at_row next v) c (k x.0 x.1 x.2 fv)
          (lesser_takes limit (passed_by (graph_of nodes) v (at_row row x.0)) c (lesser_left limit (passed_by (graph_of nodes) v best) c t) (passed_takes self (at_row row x.0) c x.3))),
    )

pub passed_iff : (nodes : Nodes) (row next : List Reach) (g : Group) (best : Reach) → ((c : ℕ) → Takes best c ↔ IsOffered nodes row g.members.items c)
    → {P : Type 0} → (P ↔ All (HoldsPassed nodes next best) g.issued.items) → P ↔ HoldsAllPassed nodes row next g
unfolding HoldsAllPassed
passed_iff nodes row next g best offers k = (
  λ p w member fw j d below. (passed_each nodes row next g.members.items best (get_or g.issued.items j d) offers).0 (k.0 p j d below) w member fw,
  λ h. k.1 (λ j d below. (passed_each nodes row next g.members.items best (get_or g.issued.items j d) offers).1 (λ w member fw. h w member fw j d below)),
)

-- the best so far, one position more
pub offered_push : (nodes : Nodes) (row : List Reach) (xs : List ℕ) (x c : ℕ)
    → IsOffered nodes row (xs ++ x ∷ []) c ↔ (IsOffered nodes row xs c ⊎ ((graph_of nodes).Fit x × Takes (at_row row x) c))
offered_push nodes row xs x c = (
  λ o. elim (Contains-push_cases xs x o.0 o.1) [
    | inl h ↦ inl (o.0, h, o.2, o.3)
    | inr e ↦ inr (subst (graph_of nodes).Fit (sym e) o.2, subst (λ (w : ℕ). Takes (at_row row w) c) (sym e) o.3)
  ],
  λ o. elim o [
    | inl h ↦ (h.0, Contains-append_left xs (x ∷ []) h.0 h.1, h.2, h.3)
    | inr h ↦ (x, Contains-push xs x, h.0, h.1)
  ],
)

pub offered_more : (nodes : Nodes) (row : List Reach) (xs : List ℕ) (i c : ℕ) → i < length xs
    → IsOffered nodes row (take (i + 1) xs) c ↔ (IsOffered nodes row (take i xs) c ⊎ ((graph_of nodes).Fit (get_or xs i 0) × Takes (at_row row (get_or xs i 0)) c))
offered_more nodes row xs i c within = rw (take_more xs i 0 within) (offered_push nodes row (take i xs) (get_or xs i 0) c)

pub best_more : (nodes : Nodes) (row : List Reach) (xs : List ℕ) (i : ℕ) (best new : Reach) → i < length xs
    → ((c : ℕ) → Takes best c ↔ IsOffered nodes row (take i xs) c) → (graph_of nodes).Fit (get_or xs i 0)
    → ((c : ℕ) → Takes new c ↔ (Takes best c ⊎ Takes (at_row row (get_or xs i 0)) c))
    → (c : ℕ) → Takes new c ↔ IsOffered nodes row (take (i + 1) xs) c
best_more nodes row xs i best new within h fit k c =
    let o = offered_more nodes row xs i c within in (
      λ t. elim ((k c).0 t) [ inl x ↦ o.1 (inl ((h c).0 x)) | inr y ↦ o.1 (inr (fit, y)) ],
      λ x. elim (o.0 x) [ inl y ↦ (k c).1 (inl ((h c).1 y)) | inr y ↦ (k c).1 (inr y.1) ],
    )

pub best_same : (nodes : Nodes) (row : List Reach) (xs : List ℕ) (i : ℕ) (best : Reach) → i < length xs
    → ((c : ℕ) → Takes best c ↔ IsOffered nodes row (take i xs) c) → ((graph_of nodes).Fit (get_or xs i 0) → ⊥)
    → (c : ℕ) → Takes best c ↔ IsOffered nodes row (take (i + 1) xs) c
best_same nodes row xs i best within h unfit c =
    let o = offered_more nodes row xs i c within in (
      λ t. o.1 (inl ((h c).0 t)),
      λ x. elim (o.0 x) [ inl y ↦ (h c).1 y | inr y ↦ absurd (unfit y.0) ],
    )

pub none_offered : (nodes : Nodes) (row : List Reach) (c : ℕ) → IsOffered nodes row [] c → ⊥
none_offered nodes row c o = let at = o.1 in absurd (omega (arith, at.1))

-- fit members below a bound that take a count
pub open_below : (nodes : Nodes) (row : List Reach) (v c bound : ℕ) → Any (HasOpenBelow nodes row v c bound) nodes.groups.items ↔ ((w : ℕ) × (w < bound) × MayTake (graph_of nodes) row v c w)
unfolding HasOpenBelow IsOpenBelow Links
open_below nodes row v c bound = (
  λ e. let b = e.4.1 in (b.1, b.4.0, (b.4.1, (e.0, e.1, e.2, e.3, record { issued = e.4.0; member = (b.0, b.2, b.3) }), b.4.2)),
  λ x. let e = x.2.1 in let at = e.4.member in (e.0, e.1, e.2, e.3, (e.4.issued, (at.0, x.0, at.1, at.2, (x.1, x.2.0, x.2.2)))),
)
