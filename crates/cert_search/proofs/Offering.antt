-- What a row offers, member by member and group by group.
use Rattle.std.proofs.Common.{◌≡◌, ◌≢◌, ℕ, ◌+◌, ◌<◌, List, [], ◌∷◌, ◌++◌, length, take, get_or, set, arith, sym, subst, refl, inl, inr, get_or-set_same, get_or-set_other}
use Rattle.std.specs.Prelude.{◌⊎◌, ◌↔◌, Any, Contains}
use Rattle.std.proofs.lemmas.Bool.{cases_lt}
use Rattle.std.proofs.lemmas.List.{take_more}
use Rattle.std.proofs.lemmas.List.Elements.{Contains-get_or, Contains-append_left, Contains-push, Contains-push_cases}
use Rattle.cert_graph.specs.declared.reach.Reach.{Reach}
use Rattle.cert_graph.specs.declared.reach.Reach.TheVariants.{No}
use Rattle.cert_graph.specs.declared.nodes.Group.{Group}
use Rattle.cert_graph.specs.declared.nodes.Nodes.{Nodes}
use Rattle.cert_graph.specs.Reach.{Takes}
use Rattle.cert_graph.specs.Adequate.{at_row}
use Rattle.cert_graph.specs.Nodes.{graph_of, Links, LinksToAnchor}
use Rattle.cert_search.specs.Rows.{GroupOffers, GoesOn}

-- one position more is offered at least so much
pub offered_more : (offers : List Reach) (x : ℕ) (new offer : Reach) → x < length offers → ((c : ℕ) → Takes new c ↔ (Takes (at_row offers x) c ⊎ Takes offer c))
    → (v c : ℕ) → Takes (at_row (set offers x new) v) c ↔ (Takes (at_row offers v) c ⊎ ((x ≡ v) × Takes offer c))
offered_more offers x new offer within k v c = elim (cases_lt x v) [
  | inl below ↦
      let other : v ≢ x = omega arith in
      let same = get_or-set_other offers x v new No other in (
        λ t. inl (subst (λ (r : Reach). Takes r c) same t),
        λ o. elim o [ inl t ↦ subst (λ (r : Reach). Takes r c) (sym same) t | inr e ↦ absurd (other (sym e.0)) ],
      )
  | inr above ↦ elim (cases_lt v x) [
    | inl below ↦
        let other : v ≢ x = omega arith in
        let same = get_or-set_other offers x v new No other in (
          λ t. inl (subst (λ (r : Reach). Takes r c) same t),
          λ o. elim o [ inl t ↦ subst (λ (r : Reach). Takes r c) (sym same) t | inr e ↦ absurd (other (sym e.0)) ],
        )
    | inr ge ↦
        let e : x ≡ v = omega arith in
        subst (λ (u : ℕ). Takes (at_row (set offers x new) u) c ↔ (Takes (at_row offers u) c ⊎ ((x ≡ u) × Takes offer c))) e (
          λ t. elim ((k c).0 (subst (λ (r : Reach). Takes r c) (get_or-set_same offers x new No within) t)) [ inl y ↦ inl y | inr y ↦ inr (refl, y) ],
          λ o. subst (λ (r : Reach). Takes r c) (sym (get_or-set_same offers x new No within)) ((k c).1 (elim o [ inl y ↦ inl y | inr y ↦ inr y.1 ])),
        )
  ]
]

pub issued_more : (first offers : List Reach) (issued : List ℕ) (i : ℕ) (new offer : Reach) → i < length issued → get_or issued i 0 < length offers
    → ((v c : ℕ) → Takes (at_row offers v) c ↔ (Takes (at_row first v) c ⊎ (Contains (take i issued) v × Takes offer c)))
    → ((c : ℕ) → Takes new c ↔ (Takes (at_row offers (get_or issued i 0)) c ⊎ Takes offer c))
    → (v c : ℕ) → Takes (at_row (set offers (get_or issued i 0) new) v) c ↔ (Takes (at_row first v) c ⊎ (Contains (take (i + 1) issued) v × Takes offer c))
issued_more first offers issued i new offer within inside h k v c =
    let m = offered_more offers (get_or issued i 0) new offer inside k v c in
    rw (take_more issued i 0 within) (
      λ t. elim (m.0 t) [
        | inl y ↦ elim ((h v c).0 y) [ inl z ↦ inl z | inr z ↦ inr (Contains-append_left (take i issued) (get_or issued i 0 ∷ []) v z.0, z.1) ]
        | inr y ↦ inr (subst (Contains (take i issued ++ get_or issued i 0 ∷ [])) y.0 (Contains-push (take i issued) (get_or issued i 0)), y.1)
      ],
      λ o. elim o [
        | inl y ↦ m.1 (inl ((h v c).1 (inl y)))
        | inr y ↦ elim (Contains-push_cases (take i issued) (get_or issued i 0) v y.0) [
          | inl z ↦ m.1 (inl ((h v c).1 (inr (z, y.1))))
          | inr e ↦ m.1 (inr (e, y.1))
        ]
      ],
    )

-- what some groups offer to a certificate that they issued
abbrev pub GroupsOffer : Nodes → List Reach → List Group → ℕ → ℕ → Type 0
GroupsOffer nodes row groups v c = Any (λ group. Contains group.issued.items v × GroupOffers nodes row group c) groups

-- what all groups offer is how a certificate may go on
pub groups_go_on : (nodes : Nodes) (row : List Reach) (v c : ℕ) → GroupsOffer nodes row nodes.groups.items v c ↔ GoesOn (graph_of nodes) row v c
unfolding Links LinksToAnchor
groups_go_on nodes row v c = (
  λ o. elim o.4.1 [
    | inl some ↦ inl (get_or o.1.anchors.items 0 0, (o.0, o.1, o.2, o.3, record { issued = o.4.0; anchor = Contains-get_or o.1.anchors.items 0 0 some }))
    | inr w ↦ inr (w.0, w.2, (o.0, o.1, o.2, o.3, record { issued = o.4.0; member = w.1 }), w.3)
  ],
  λ x. elim x [
    | inl a ↦ let e = a.1 in let at = e.4.anchor in (e.0, e.1, e.2, e.3, (e.4.issued, inl (omega (arith, at.1))))
    | inr w ↦ let e = w.2 in (e.0, e.1, e.2, e.3, (e.4.issued, inr (w.0, e.4.member, w.1, w.3)))
  ],
)
