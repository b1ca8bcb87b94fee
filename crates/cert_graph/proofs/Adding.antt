-- Links that groups gain.
use Rattle.std.specs.Prelude.{◌↔◌, ◌⊎◌}
use Rattle.std.proofs.Common.{◌≡◌, ◌∙◌, ap, sym, subst, ℕ, ◌+◌, ◌<◌, List, [], ◌∷◌, ◌++◌, length, length-append, arith, get_or, inl, inr}
use Rattle.std.specs.List.{All, Any, Contains}
use Rattle.std.proofs.Math.ListN.{get_or-append}
use Rattle.std.proofs.Math.Seq.{get_or-append_seam}
use Rattle.std.proofs.lemmas.Bool.{cases_lt}
use Rattle.std.proofs.lemmas.List.{get_or_default}
use Rattle.std.proofs.lemmas.List.Elements.{All-push}
use Rattle.std.proofs.lemmas.List.Quantifiers.{Any-push}
use Rattle.cert_graph.specs.declared.nodes.Group.{Group}
use Rattle.cert_graph.specs.Nodes.{HasLink, HasAnchorLink}
use Rattle.cert_graph.specs.Links.{IsWithin, Adds}

any_left : {X : Type 0} (P : X → Type 0) (xs : List X) (y : X) → Any P xs → Any P (xs ++ y ∷ [])
any_left P xs y h = let long = length-append xs (y ∷ []) in let lt = h.2 in (h.0, h.1, omega arith, get_or-append xs (y ∷ []) h.1 h.0 h.2 ∙ h.3, h.4)

any_cases : {X : Type 0} (P : X → Type 0) (xs : List X) (y : X) → Any P (xs ++ y ∷ []) → Any P xs ⊎ P y
any_cases P xs y h =
    let long = length-append xs (y ∷ []) in
    let place = h.2 in
    elim (cases_lt h.0 (length xs)) [
      | inl lt ↦ inl (h.0, h.1, lt, sym (get_or-append xs (y ∷ []) h.1 h.0 lt) ∙ h.3, h.4)
      | inr past ↦
          let same : h.0 ≡ length xs = omega arith in
          let is : h.1 ≡ y = sym h.3 ∙ ap (λ i. get_or (xs ++ y ∷ []) i h.1) same ∙ get_or-append_seam xs y [] h.1 in
          inr (subst P is h.4)
    ]

any_one_more : {X : Type 0} (P : X → Type 0) (xs : List X) (y : X) → Any P (xs ++ y ∷ []) ↔ (Any P xs ⊎ P y)
any_one_more P xs y = (λ h. any_cases P xs y h, λ h. elim h [ inl old ↦ any_left P xs y old | inr new ↦ Any-push P xs y new ])

-- one group more
pub adds_push : (n : ℕ) (old : List Group) (g : Group) → All (λ v. v < n) g.members.items → All (λ v. v < n) g.issued.items
    → Adds n old (old ++ g ∷ []) (λ v w. Contains g.issued.items v × Contains g.members.items w) (λ v a. Contains g.issued.items v × Contains g.anchors.items a)
adds_push n old g members issued = record {
  within = λ h. All-push (IsWithin n) old g h (record { members = members; issued = issued });
  links = λ v w. let m = any_one_more (HasLink v w) old g in (
    λ h. elim (m.0 h) [ inl x ↦ inl x | inr x ↦ inr (x.issued, x.member) ],
    λ h. elim h [ inl x ↦ m.1 (inl x) | inr x ↦ m.1 (inr (record { issued = x.0; member = x.1 })) ],
  );
  anchored = λ v a. let m = any_one_more (HasAnchorLink v a) old g in (
    λ h. elim (m.0 h) [ inl x ↦ inl x | inr x ↦ inr (x.issued, x.anchor) ],
    λ h. elim h [ inl x ↦ m.1 (inl x) | inr x ↦ m.1 (inr (record { issued = x.0; anchor = x.1 })) ],
  );
}

-- nothing is linked
pub adds_none : (n : ℕ) (old : List Group) (P Q : ℕ → ℕ → Type 0) → ((v w : ℕ) → P v w → ⊥) → ((v a : ℕ) → Q v a → ⊥) → Adds n old old P Q
adds_none n old P Q none no_anchor = record {
  within = λ h. h;
  links = λ v w. (λ h. inl h, λ h. elim h [ inl x ↦ x | inr x ↦ absurd (none v w x) ]);
  anchored = λ v a. (λ h. inl h, λ h. elim h [ inl x ↦ x | inr x ↦ absurd (no_anchor v a x) ]);
}

-- these and then those
pub adds_then : (n : ℕ) (a b c : List Group) (P Q P' Q' : ℕ → ℕ → Type 0) → Adds n a b P Q → Adds n b c P' Q' → Adds n a c (λ v w. P v w ⊎ P' v w) (λ v w. Q v w ⊎ Q' v w)
adds_then n a b c P Q P' Q' h k = record {
  within = λ x. k.within (h.within x);
  links = λ v w. (
    λ x. elim ((k.links v w).0 x) [ inl y ↦ elim ((h.links v w).0 y) [ inl z ↦ inl z | inr z ↦ inr (inl z) ] | inr y ↦ inr (inr y) ],
    λ x. elim x [ inl y ↦ (k.links v w).1 (inl ((h.links v w).1 (inl y))) | inr y ↦ elim y [ inl z ↦ (k.links v w).1 (inl ((h.links v w).1 (inr z))) | inr z ↦ (k.links v w).1 (inr z) ] ],
  );
  anchored = λ v w. (
    λ x. elim ((k.anchored v w).0 x) [ inl y ↦ elim ((h.anchored v w).0 y) [ inl z ↦ inl z | inr z ↦ inr (inl z) ] | inr y ↦ inr (inr y) ],
    λ x. elim x [ inl y ↦ (k.anchored v w).1 (inl ((h.anchored v w).1 (inl y))) | inr y ↦ elim y [ inl z ↦ (k.anchored v w).1 (inl ((h.anchored v w).1 (inr z))) | inr z ↦ (k.anchored v w).1 (inr z) ] ],
  );
}

-- links in other words
pub adds_as : (n : ℕ) (a b : List Group) (P Q P' Q' : ℕ → ℕ → Type 0) → Adds n a b P Q → ((v w : ℕ) → P v w ↔ P' v w) → ((v w : ℕ) → Q v w ↔ Q' v w) → Adds n a b P' Q'
adds_as n a b P Q P' Q' h p q = record {
  within = h.within;
  links = λ v w. (
    λ x. elim ((h.links v w).0 x) [ inl y ↦ inl y | inr y ↦ inr ((p v w).0 y) ],
    λ x. elim x [ inl y ↦ (h.links v w).1 (inl y) | inr y ↦ (h.links v w).1 (inr ((p v w).1 y)) ],
  );
  anchored = λ v w. (
    λ x. elim ((h.anchored v w).0 x) [ inl y ↦ inl y | inr y ↦ inr ((q v w).0 y) ],
    λ x. elim x [ inl y ↦ (h.anchored v w).1 (inl y) | inr y ↦ (h.anchored v w).1 (inr ((q v w).1 y)) ],
  );
}

-- what the elements of a list up to a place add
abbrev pub UpTo : {X : Type 0} → (X → ℕ → ℕ → Type 0) → List X → ℕ → ℕ → ℕ → Type 0
UpTo {X} P xs k v w = (i : ℕ) × (x : X) × (i < k) × (get_or xs i x ≡ x) × P x v w

pub up_to_more : {X : Type 0} (P : X → ℕ → ℕ → Type 0) (xs : List X) (k : ℕ) (x : X) → x ≡ get_or xs k x → k < length xs → (v w : ℕ) → (UpTo P xs k v w ⊎ P x v w) ↔ UpTo P xs (k + 1) v w
up_to_more P xs k x at lt v w = (
  λ h. elim h [ inl y ↦ let less = y.2 in (y.0, y.1, omega arith, y.3, y.4) | inr y ↦ (k, x, omega arith, sym at, y) ],
  λ h. elim (cases_lt h.0 k) [
    | inl less ↦ inl (h.0, h.1, less, h.3, h.4)
    | inr past ↦
        let below = h.2 in
        let same : h.0 ≡ k = omega arith in
        let here : get_or xs k h.1 ≡ h.1 = subst (λ i. get_or xs i h.1 ≡ h.1) same h.3 in
        let is : h.1 ≡ x = sym here ∙ get_or_default xs k h.1 x lt ∙ sym at in
        inr (subst (λ y. P y v w) is h.4)
  ],
)
