-- The least of some numbers, list by list.
use Rattle.std.proofs.Common.{◌≡◌, ℕ, ◌+◌, ◌<◌, ◌≤◌, min, List, [], ◌∷◌, length, take, get_or, Option, Some, None, arith, sym, ◌∙◌, subst, inl, inr}
use Rattle.std.specs.Prelude.{◌⊎◌, ◌↔◌, Any, Contains, slice_get}
use Rattle.std.specs.List.Sorted.{IsStrictlyIncreasing}
use Rattle.std.proofs.lemmas.Bool.{cases_lt}
use Rattle.std.proofs.lemmas.List.{get_or_default, take_all}
use Rattle.std.proofs.lemmas.List.Elements.{Contains-get_or}
use Rattle.std.proofs.lemmas.List.Kept.{AllPairs-from_increasing}
use Rattle.cert_graph.specs.declared.nodes.Group.{Group}
use Rattle.cert_graph.specs.declared.nodes.Nodes.{Nodes}
use Rattle.cert_graph.specs.Nodes.{Links, LinksToAnchor}
use Rattle.cert_graph.specs.Least.{IsLeast, IsLeastOption, lower_of}
use Rattle.cert_graph.proofs.Anything.{any_more}

-- the first of ascending numbers with a property is the least
pub least_first : (P : ℕ → Type 0) (xs : List ℕ) (i : ℕ) → IsStrictlyIncreasing xs → i < length xs → P (get_or xs i 0) → ((k : ℕ) → k < i → P (get_or xs k 0) → ⊥)
    → IsLeast (λ w. Contains xs w × P w) (get_or xs i 0)
least_first P xs i up within p before = (
  (Contains-get_or xs i 0 within, p),
  λ m less h.
      let k = h.0.0 in
      let inside = h.0.1 in
      let is : get_or xs k 0 ≡ m = sym (get_or_default xs k m 0 inside) ∙ h.0.2 in
      elim (cases_lt k i) [
        | inl below ↦ before k below (subst P (sym is) h.1)
        | inr above ↦ elim (cases_lt i k) [
          | inl later ↦ let rises = AllPairs-from_increasing xs up i k 0 later inside in omega arith
          | inr same ↦ let e : k ≡ i = omega arith in
              let here : get_or xs i 0 ≡ m = subst (λ (j : ℕ). get_or xs j 0 ≡ m) e is in
              omega arith
        ]
      ],
)

pub none_of : (P : ℕ → Type 0) (xs : List ℕ) (i : ℕ) → length xs ≤ i → ((k : ℕ) → k < i → P (get_or xs k 0) → ⊥) → IsLeastOption (λ w. Contains xs w × P w) None
none_of P xs i past before n h =
    let k = h.0.0 in
    let inside = h.0.1 in
    before k (omega arith) (subst P (sym (sym (get_or_default xs k n 0 inside) ∙ h.0.2)) h.1)

-- the least with a property is the least with a property that is equivalent
pub least_same : (P Q : ℕ → Type 0) (o : Option ℕ) → ((w : ℕ) → P w ↔ Q w) → IsLeastOption P o → IsLeastOption Q o
least_same P Q None k h = λ n q. h n ((k n).1 q)
least_same P Q (Some m) k h = ((k m).0 h.0, λ n less q. h.1 n less ((k n).1 q))

-- the lower of two least numbers is the least of both kinds
pub least_lower : (P Q : ℕ → Type 0) (a b : Option ℕ) → IsLeastOption P a → IsLeastOption Q b → IsLeastOption (λ w. P w ⊎ Q w) (lower_of a b)
least_lower P Q None None h k = λ n o. elim o [ inl p ↦ h n p | inr q ↦ k n q ]
least_lower P Q None (Some b) h k = (inr k.0, λ n less o. elim o [ inl p ↦ h n p | inr q ↦ k.1 n less q ])
least_lower P Q (Some a) None h k = (inl h.0, λ n less o. elim o [ inl p ↦ h.1 n less p | inr q ↦ k n q ])
least_lower P Q (Some a) (Some b) h k = elim (cases_lt a b) [
  | inl lt ↦ let e : a ≡ min a b = omega arith in
      subst (IsLeast (λ w. P w ⊎ Q w)) e
      (inl h.0, λ n less o. elim o [ inl p ↦ h.1 n less p | inr q ↦ let under : n < b = omega arith in k.1 n under q ])
  | inr ge ↦ let e : b ≡ min a b = omega arith in
      subst (IsLeast (λ w. P w ⊎ Q w)) e
      (inr k.0, λ n less o. elim o [ inl p ↦ let under : n < a = omega arith in h.1 n under p | inr q ↦ k.1 n less q ])
]

-- some group that issued a certificate has a number among its members, or its anchors
abbrev pub LinksBy : (Group → List ℕ) → List Group → ℕ → ℕ → Type 0
LinksBy ends groups v w = Any (λ group. Contains group.issued.items v × Contains (ends group) w) groups

pub links_more : (ends : Group → List ℕ) (groups : List Group) (i : ℕ) (x : Group) (v w : ℕ) → i < length groups → x ≡ get_or groups i x
    → LinksBy ends (take (i + 1) groups) v w ↔ (LinksBy ends (take i groups) v w ⊎ (Contains x.issued.items v × Contains (ends x) w))
links_more ends groups i x v w within is = any_more (λ group. Contains group.issued.items v × Contains (ends group) w) groups i x within is

-- one more group, which issued the certificate
pub linked_more : (ends : Group → List ℕ) (Q : ℕ → Type 0) (groups : List Group) (i : ℕ) (x : Group) (v : ℕ) (a b : Option ℕ) → i < length groups → x ≡ get_or groups i x → Contains x.issued.items v
    → IsLeastOption (λ w. LinksBy ends (take i groups) v w × Q w) a → IsLeastOption (λ w. Contains (ends x) w × Q w) b
    → IsLeastOption (λ w. LinksBy ends (take (i + 1) groups) v w × Q w) (lower_of a b)
linked_more ends Q groups i x v a b within is issued h k =
    least_same (λ w. (LinksBy ends (take i groups) v w × Q w) ⊎ (Contains (ends x) w × Q w)) (λ w. LinksBy ends (take (i + 1) groups) v w × Q w) (lower_of a b)
    (λ w. let m = links_more ends groups i x v w within is in (
      λ o. elim o [ inl y ↦ (m.1 (inl y.0), y.1) | inr y ↦ (m.1 (inr (issued, y.0)), y.1) ],
      λ y. elim (m.0 y.0) [ inl z ↦ inl (z, y.1) | inr z ↦ inr (z.1, y.1) ],
    ))
    (least_lower (λ w. LinksBy ends (take i groups) v w × Q w) (λ w. Contains (ends x) w × Q w) a b h k)

-- one more group, which did not
pub unlinked_more : (ends : Group → List ℕ) (Q : ℕ → Type 0) (groups : List Group) (i : ℕ) (x : Group) (v : ℕ) (a : Option ℕ) → i < length groups → x ≡ get_or groups i x → (Contains x.issued.items v → ⊥)
    → IsLeastOption (λ w. LinksBy ends (take i groups) v w × Q w) a → IsLeastOption (λ w. LinksBy ends (take (i + 1) groups) v w × Q w) a
unlinked_more ends Q groups i x v a within is other h =
    least_same (λ w. LinksBy ends (take i groups) v w × Q w) (λ w. LinksBy ends (take (i + 1) groups) v w × Q w) a
    (λ w. let m = links_more ends groups i x v w within is in (
      λ y. (m.1 (inl y.0), y.1),
      λ y. elim (m.0 y.0) [ inl z ↦ (z, y.1) | inr z ↦ absurd (other z.0) ],
    )) h

pub none_linked : (ends : Group → List ℕ) (Q : ℕ → Type 0) (v : ℕ) → IsLeastOption (λ w. LinksBy ends [] v w × Q w) None
none_linked ends Q v n h = absurd (omega (arith, h.0.2))

-- all groups
pub linked_all : (ends : Group → List ℕ) (Q : ℕ → Type 0) (groups : List Group) (i v : ℕ) (a : Option ℕ) → length groups ≤ i
    → IsLeastOption (λ w. LinksBy ends (take i groups) v w × Q w) a → IsLeastOption (λ w. LinksBy ends groups v w × Q w) a
linked_all ends Q groups i v a past h = subst (λ (gs : List Group). IsLeastOption (λ w. LinksBy ends gs v w × Q w) a) (take_all i groups past) h

-- the first of ascending numbers is the least
pub first_least : (xs : List ℕ) → IsStrictlyIncreasing xs → IsLeastOption (λ a. Contains xs a × Unit {0}) (slice_get xs 0)
first_least [] up = λ n h. absurd (omega (arith, h.0.1))
first_least (x ∷ xs) up = least_first (λ a. Unit {0}) (x ∷ xs) 0 up (omega arith) tt (λ k lt p. omega arith)

-- what links by its groups links in the graph
pub members_linked : (nodes : Nodes) (v w : ℕ) → LinksBy (λ g. g.members.items) nodes.groups.items v w ↔ Links nodes v w
unfolding Links
members_linked nodes v w = (
  λ e. (e.0, e.1, e.2, e.3, record { issued = e.4.0; member = e.4.1 }),
  λ e. (e.0, e.1, e.2, e.3, (e.4.issued, e.4.member)),
)

pub anchors_linked : (nodes : Nodes) (v a : ℕ) → LinksBy (λ g. g.anchors.items) nodes.groups.items v a ↔ LinksToAnchor nodes v a
unfolding LinksToAnchor
anchors_linked nodes v a = (
  λ e. (e.0, e.1, e.2, e.3, record { issued = e.4.0; anchor = e.4.1 }),
  λ e. (e.0, e.1, e.2, e.3, (e.4.issued, e.4.anchor)),
)
