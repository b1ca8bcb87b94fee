-- What is looked up by the groups of an item is what all groups say.
use Rattle.std.proofs.Common.{◌≡◌, ℕ, ◌+◌, ◌<◌, ◌≤◌, List, [], length, take, get_or, true, Option, None, arith, sym, ◌∙◌, subst, inl, inr}
use Rattle.std.specs.Prelude.{◌↔◌, ◌⊎◌, Any, Contains, nat_lt}
use Rattle.std.proofs.lemmas.Bool.{cases_lt, ltb-true, lt-ltb}
use Rattle.std.proofs.lemmas.List.{get_or_default, get_or_past, get_or-take, length-take, take_all}
use Rattle.std.proofs.lemmas.List.Elements.{All-contains, Contains-get_or}
use Rattle.cert_graph.specs.declared.lookup.Lookup.{Lookup}
use Rattle.cert_graph.specs.declared.reach.Reach.{Reach}
use Rattle.cert_graph.specs.declared.nodes.Group.{Group}
use Rattle.cert_graph.specs.declared.nodes.Nodes.{Nodes}
use Rattle.cert_graph.specs.Adequate.{at_row}
use Rattle.cert_graph.specs.Entries.{IsAt}
use Rattle.cert_graph.specs.Graph.{Graph}
use Rattle.cert_graph.specs.Issuing.{IssuedBy}
use Rattle.cert_graph.specs.Least.{IsOpen, IsLeast, IsLeastOption, lower_of}
use Rattle.cert_graph.specs.Lists.{AreFilled}
use Rattle.cert_graph.specs.Lookup.{IsLookup}
use Rattle.cert_graph.specs.Nodes.{graph_of, LinksToAnchor}
use Rattle.cert_graph.specs.Stairs.{AreStairs}
use Rattle.cert_graph.specs.Steps.{MayTake}
use Rattle.cert_graph.specs.Tables.{IsShut}
use Rattle.cert_graph.proofs.Anything.{any_more}
use Rattle.cert_graph.proofs.Flights.{flights_in}
use Rattle.cert_graph.proofs.Lowest.{LinksBy, least_same, least_lower, members_linked, anchors_linked}
use Rattle.cert_graph.proofs.PlacesOfNodes.{any_at, element_at}
use Rattle.cert_graph.proofs.ReachFacts.{none_taken, no_takes}

-- one of the groups with some numbers has a position among its members, or its anchors
abbrev pub NamedBy : (Group → List ℕ) → List Group → List ℕ → ℕ → Type 0
NamedBy ends groups numbers w = Any (λ k. IsAt groups k (λ group. Contains (ends group) w)) numbers

-- the groups that issued an item, by their numbers
abbrev pub IsIssuing : Nodes → ℕ → List ℕ → Type 0
IsIssuing nodes v numbers = (k : ℕ) → Contains numbers k ↔ IssuedBy nodes.groups.items k v

-- an index has them
pub issuing_of : (nodes : Nodes) (lists : List (List ℕ)) (v : ℕ) → AreFilled (IssuedBy nodes.groups.items) (length nodes.items.items) (length nodes.groups.items) lists → IsIssuing nodes v (get_or lists v [])
issuing_of nodes lists v h k =
    let count = h.count in elim (cases_lt v (length nodes.items.items)) [
      | inl within ↦
          let fill = h.each v within in (
            λ x. (fill.exact k (All-contains (λ (j : ℕ). j < length nodes.groups.items) (get_or lists v []) k fill.within x)).0 x,
            λ x. (fill.exact k x.0).1 x,
          )
      | inr past ↦
          let out : length lists ≤ v = omega arith in
          let none : get_or lists v [] ≡ [] = get_or_past lists v [] out in (
            λ x. let y = subst (λ (xs : List ℕ). Contains xs k) none x in absurd (omega (arith, y.1)),
            λ x.
                let own = element_at nodes.groups.items k x.0 in
                let inside : v < length nodes.items.items =
                All-contains (λ (u : ℕ). u < length nodes.items.items) (get_or nodes.groups.items k own.0).issued.items v (nodes.issued_within k own.0 x.0) (x.1 own.0) in
                absurd (omega arith),
          )
    ]

-- what the groups that issued an item name, they link
pub named_linked : (ends : Group → List ℕ) (nodes : Nodes) (numbers : List ℕ) (v w : ℕ) → IsIssuing nodes v numbers → NamedBy ends nodes.groups.items numbers w ↔ LinksBy ends nodes.groups.items v w
named_linked ends nodes numbers v w h = (
  λ e.
      let issued = (h e.1).0 (e.0, e.2, e.3) in
      let own = element_at nodes.groups.items e.1 issued.0 in
      any_at (λ group. Contains group.issued.items v × Contains (ends group) w) nodes.groups.items e.1 own.0 issued.0 (issued.1 own.0, e.4.1 own.0),
  λ e.
      let there = (h e.0).1 (e.2, λ d. subst (λ (group : Group). Contains group.issued.items v) (sym e.3 ∙ get_or_default nodes.groups.items e.0 e.1 d e.2) e.4.0) in
      (there.0, e.0, there.1, there.2, (e.2, λ d. subst (λ (group : Group). Contains (ends group) w) (sym e.3 ∙ get_or_default nodes.groups.items e.0 e.1 d e.2) e.4.1)),
)

-- each of them is a group
pub named_within : (nodes : Nodes) (numbers : List ℕ) (v i : ℕ) → IsIssuing nodes v numbers → i < length numbers → get_or numbers i 0 < length nodes.groups.items
named_within nodes numbers v i h within = ((h (get_or numbers i 0)).0 (Contains-get_or numbers i 0 within)).0

-- none so far
pub none_named : (ends : Group → List ℕ) (Q : ℕ → Type 0) (groups : List Group) → IsLeastOption (λ w. NamedBy ends groups [] w × Q w) None
none_named ends Q groups n h = absurd (omega (arith, h.0.2))

-- one group more
pub named_more : (ends : Group → List ℕ) (Q : ℕ → Type 0) (groups : List Group) (numbers : List ℕ) (i : ℕ) (a b : Option ℕ) → i < length numbers → get_or numbers i 0 < length groups
    → IsLeastOption (λ w. NamedBy ends groups (take i numbers) w × Q w) a → ((own : Group) → IsLeastOption (λ w. Contains (ends (get_or groups (get_or numbers i 0) own)) w × Q w) b)
    → IsLeastOption (λ w. NamedBy ends groups (take (i + 1) numbers) w × Q w) (lower_of a b)
named_more ends Q groups numbers i a b within inside h k =
    let x = get_or numbers i 0 in
    let own = (element_at groups x inside).0 in
    let is : x ≡ get_or numbers i x = get_or_default numbers i 0 x within in
    least_same (λ w. (NamedBy ends groups (take i numbers) w × Q w) ⊎ (Contains (ends (get_or groups x own)) w × Q w)) (λ w. NamedBy ends groups (take (i + 1) numbers) w × Q w) (lower_of a b)
    (λ w. let m = any_more (λ (n : ℕ). IsAt groups n (λ group. Contains (ends group) w)) numbers i x within is in (
      λ o. elim o [
        | inl y ↦ (m.1 (inl y.0), y.1)
        | inr y ↦ (m.1 (inr (inside, λ d. subst (λ (group : Group). Contains (ends group) w) (get_or_default groups x own d inside) y.0)), y.1)
      ],
      λ y. elim (m.0 y.0) [ inl z ↦ inl (z, y.1) | inr z ↦ inr (z.1 own, y.1) ],
    ))
    (least_lower (λ w. NamedBy ends groups (take i numbers) w × Q w) (λ w. Contains (ends (get_or groups x own)) w × Q w) a b h (k own))

-- all groups that issued an item
named_all : (ends : Group → List ℕ) (Q : ℕ → Type 0) (groups : List Group) (numbers : List ℕ) (i : ℕ) (a : Option ℕ) → length numbers ≤ i
    → IsLeastOption (λ w. NamedBy ends groups (take i numbers) w × Q w) a → IsLeastOption (λ w. NamedBy ends groups numbers w × Q w) a
named_all ends Q groups numbers i a past h = subst (λ (xs : List ℕ). IsLeastOption (λ w. NamedBy ends groups xs w × Q w) a) (take_all i numbers past) h

pub least_named : (nodes : Nodes) (row : List Reach) (numbers : List ℕ) (v c i : ℕ) (a : Option ℕ) → IsIssuing nodes v numbers → length numbers ≤ i
    → IsLeastOption (λ w. NamedBy (λ g. g.members.items) nodes.groups.items (take i numbers) w × IsOpen (graph_of nodes) row c w) a → IsLeastOption (MayTake (graph_of nodes) row v c) a
least_named nodes row numbers v c i a issuing past h =
    least_same (λ w. NamedBy (λ g. g.members.items) nodes.groups.items numbers w × IsOpen (graph_of nodes) row c w) (MayTake (graph_of nodes) row v c) a
    (λ w.
    let n = named_linked (λ g. g.members.items) nodes numbers v w issuing in
    let m = members_linked nodes v w in
    (λ x. (x.1.0, m.0 (n.0 x.0), x.1.1), λ x. (n.1 (m.1 x.1), (x.0, x.2))))
    (named_all (λ g. g.members.items) (IsOpen (graph_of nodes) row c) nodes.groups.items numbers i a past h)

pub least_anchored : (nodes : Nodes) (numbers : List ℕ) (v i : ℕ) (a : Option ℕ) → IsIssuing nodes v numbers → length numbers ≤ i
    → IsLeastOption (λ w. NamedBy (λ g. g.anchors.items) nodes.groups.items (take i numbers) w × Unit {0}) a → IsLeastOption (LinksToAnchor nodes v) a
least_anchored nodes numbers v i a issuing past h =
    least_same (λ w. NamedBy (λ g. g.anchors.items) nodes.groups.items numbers w × Unit {0}) (LinksToAnchor nodes v) a
    (λ w.
    let n = named_linked (λ g. g.anchors.items) nodes numbers v w issuing in
    let m = anchors_linked nodes v w in
    (λ x. m.0 (n.0 x.0), λ x. (n.1 (m.1 x), tt)))
    (named_all (λ g. g.anchors.items) (λ w. Unit {0}) nodes.groups.items numbers i a past h)

-- one of the groups that issued an item names a position
pub named_here : (ends : Group → List ℕ) (groups : List Group) (numbers : List ℕ) (i w : ℕ) (own : Group) → i < length numbers → get_or numbers i 0 < length groups → own ≡ get_or groups (get_or numbers i 0) own
    → Contains (ends own) w → NamedBy ends groups numbers w
named_here ends groups numbers i w own within inside is x =
    any_at (λ (k : ℕ). IsAt groups k (λ group. Contains (ends group) w)) numbers i 0 within
    (inside, λ d. subst (λ (group : Group). Contains (ends group) w) (is ∙ get_or_default groups (get_or numbers i 0) own d inside) x)

-- one more of them doesn't
pub named_past : (ends : Group → List ℕ) (groups : List Group) (numbers : List ℕ) (i w : ℕ) (own : Group) → i < length numbers → own ≡ get_or groups (get_or numbers i 0) own
    → (NamedBy ends groups (take i numbers) w → ⊥) → (Contains (ends own) w → ⊥) → NamedBy ends groups (take (i + 1) numbers) w → ⊥
named_past ends groups numbers i w own within is before none e =
    let x = get_or numbers i 0 in
    elim ((any_more (λ (n : ℕ). IsAt groups n (λ group. Contains (ends group) w)) numbers i x within (get_or_default numbers i 0 x within)).0 e) [
      | inl y ↦ before y
      | inr y ↦ none (subst (λ (group : Group). Contains (ends group) w) (sym is) (y.1 own))
    ]

-- none of them does
pub named_nowhere : (ends : Group → List ℕ) (nodes : Nodes) (numbers : List ℕ) (v w i : ℕ) → IsIssuing nodes v numbers → length numbers ≤ i → (NamedBy ends nodes.groups.items (take i numbers) w → ⊥)
    → LinksBy ends nodes.groups.items v w → ⊥
named_nowhere ends nodes numbers v w i issuing past before l =
    before (subst (λ (xs : List ℕ). NamedBy ends nodes.groups.items xs w) (sym (take_all i numbers past)) ((named_linked ends nodes numbers v w issuing).1 l))

-- the least number with a property is below a bound if some such number is
pub below_iff : (P : ℕ → Type 0) (n bound : ℕ) → IsLeast P n → (nat_lt n bound ≡ true) ↔ ((w : ℕ) × (w < bound) × P w)
below_iff P n bound least = (
  λ t. (n, ltb-true n bound t, least.0),
  λ x.
      let below = x.1 in elim (cases_lt x.0 n) [
        | inl less ↦ absurd (least.1 x.0 less x.2)
        | inr above ↦ let under : n < bound = omega arith in lt-ltb n bound under
      ],
)

-- a row reaches some issuer, or none
pub shut_some : (g : Graph) (row : List Reach) (v w : ℕ) → MayTake g row v 0 w → IsShut g row v → ⊥
unfolding IsShut
shut_some g row v w m h = none_taken (at_row row w) 0 (h w m.0 m.1) m.2

pub shut_none : (g : Graph) (row : List Reach) (v : ℕ) → ((w : ℕ) → MayTake g row v 0 w → ⊥) → IsShut g row v
unfolding IsShut
shut_none g row v none = λ w fit edge. no_takes (at_row row w) (λ takes. none w (fit, edge, takes))

-- what looks up all rows looks up the first of them
pub lookup_take : (nodes : Nodes) (rows : List (List Reach)) (n : ℕ) (lookup : Lookup) → IsLookup nodes rows lookup → IsLookup nodes (take n rows) lookup
lookup_take nodes rows n lookup h = record {
  index = h.index;
  flights = (
    h.flights.0,
    λ k group own lt.
        let flights = h.flights.1 k group own lt in record {
          ascend = flights.ascend;
          covers = λ j inside.
              let l = length-take n rows in
              let below : j < n = omega arith in
              let within : j < length rows = omega arith in
              let members = (get_or nodes.groups.items k group).members.items in
              let x = flights.covers j within in (
                x.0,
                (x.1.0, λ d. let p = x.1.1 d in (p.0, subst (λ (r : List Reach). AreStairs (graph_of nodes) r members (get_or (get_or (flights_in lookup.flights.items) k own) x.0 d).stairs.items) (sym (get_or-take n rows j [] below)) p.1)),
                x.2,
              );
        },
  );
}
