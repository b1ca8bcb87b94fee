-- Lookups by digests.
use Rattle.std.specs.Prelude.{◌↔◌, ◌⊎◌, IsTrue}
use Rattle.std.proofs.Common.{◌≡◌, ◌∙◌, ap, sym, subst, refl, ℕ, ◌+◌, ◌-◌, ◌<◌, ◌≤◌, Bool, true, false, cond, List, [], ◌∷◌, ◌++◌, length, arith, get_or, map, Option, Some, None, Bor, Vec, Global, Ordering, inl, inr}
use Rattle.std.specs.Bool.{Decides}
use Rattle.std.specs.List.{Contains}
use Rattle.std.specs.List.Sorted.{IsStrictlyIncreasing}
use Rattle.std.specs.Ordering.{nat_cmp, eq_by_cmp}
use Rattle.std.specs.Cmp.Lexicographic.{slice_cmp}
use Rattle.std.specs.BTreeMap as mapped
use Rattle.std.specs.BTreeMap.{BTreeMap}
use Rattle.std.specs.BTreeSet as sorted
use Rattle.std.specs.BTreeSet.{BTreeSet}
use Rattle.std.proofs.lemmas.Bool.{cases_lt, cases_eq, cases_Bool, false≢true}
use Rattle.std.proofs.lemmas.List.{get_or-map, length-map, get_or-set_same, get_or-set_other, length-set, get_or_default}
use Rattle.std.proofs.lemmas.List.Elements.{Contains-get_or, Contains-append_left, Contains-push, Contains-push_cases}
use Rattle.std.proofs.lemmas.Map.Text.{is_eq-slice_cmp}
use Rattle.std.proofs.lemmas.Slice.Eq.{bytes_eq-Decides}
use Rattle.sha2.specs.Sha256.{sha256}
use Rattle.cert_graph.specs.Lists.{HasLast, IsPut}
use Rattle.cert_graph.proofs.Sifted.{push_ascends}
use Rattle.std.proofs.lemmas.Cmp.{nat_list_cmp_total}
use Rattle.std.proofs.lemmas.Map.Lookups.{CmpEqualImpliesEq}
use Rattle.std.proofs.lemmas.Map.Views.{btree_set_contains_iff}
use Rattle.std.specs.Ordering.{is_eq}
use Rattle.cert_graph.specs.Entries.{IsAt}
use Rattle.cert_vouchers.specs.declared.keys.Keys.{Keys}
use Rattle.cert_vouchers.specs.declared.keys.Keys.TheVariants.{One, Many}
use Rattle.cert_vouchers.specs.Vouching.{HoldsKey, HasPair, ArePlaced, IsMore, Puts, IsOf, IsAmong, IsFound, IsPlaced}

abbrev pub R : List ℕ → List ℕ → Ordering
R = slice_cmp nat_cmp

abbrev pub E : List ℕ → List ℕ → Bool
E = eq_by_cmp (slice_cmp nat_cmp)

pub same : (a b : List ℕ) → Decides (E a b) (a ≡ b)
same a b = subst (λ r. Decides r (a ≡ b)) (sym (is_eq-slice_cmp a b)) (bytes_eq-Decides a b)

pub one_some : {X : Type 0} {a b : X} → Some a ≡ Some b → a ≡ b
one_some e = cc

pub none_some : {X : Type 0} {a : X} → None ≡ Some a → ⊥
none_some e = cc

pub placed_more : (keys : List (Bor (List ℕ))) (k : ℕ) (d0 : List ℕ) (m n : BTreeMap (List ℕ) ℕ) → ArePlaced keys k m → ((key : Bor (List ℕ)) → sha256 (get_or keys k key).now ≡ d0) → mapped.get R m d0 ≡ None
    → ((q : List ℕ) → mapped.get R n q ≡ cond (E d0 q) (Some k) (mapped.get R m q)) → ArePlaced keys (k + 1) n
placed_more keys k d0 m n h own fresh update d v = elim (cases_Bool (E d0 d)) [
  | inl t ↦
      let e : d0 ≡ d = (same d0 d).0 t in
      let now : mapped.get R n d ≡ Some k = update d ∙ ap (λ b. cond b (Some k) (mapped.get R m d)) t in (
        λ x. let at : k ≡ v = one_some (sym now ∙ x) in (omega arith, λ key. subst (λ i. sha256 (get_or keys i key).now ≡ d) at (own key ∙ e)),
        λ x. elim (cases_lt v k) [
          | inl less ↦ absurd (none_some (sym fresh ∙ ap (mapped.get R m) e ∙ (h d v).1 (less, x.1)))
          | inr past ↦ let below = x.0 in let at : k ≡ v = omega arith in now ∙ ap Some at
        ],
      )
  | inr f ↦
      let now : mapped.get R n d ≡ mapped.get R m d = update d ∙ ap (λ b. cond b (Some k) (mapped.get R m d)) f in (
        λ x. let y = (h d v).0 (sym now ∙ x) in let less = y.0 in (omega arith, y.1),
        λ x. elim (cases_lt v k) [
          | inl less ↦ now ∙ (h d v).1 (less, x.1)
          | inr past ↦
              let below = x.0 in
              let at : v ≡ k = omega arith in
              let nil : Bor (List ℕ) = record { ref_ptr = (0, 0); now = [] } in
              let e : d0 ≡ d = sym (own nil) ∙ subst (λ i. sha256 (get_or keys i nil).now ≡ d) at (x.1 nil) in
              absurd (false≢true (sym f ∙ (same d0 d).1 e))
        ],
      )
]

-- a digest of a list has its place
abbrev pub FoundIn : BTreeMap (List ℕ) ℕ → List (List ℕ) → ℕ → Type 0
FoundIn m ds k = (d : List ℕ) × Contains ds d × (mapped.get R m d ≡ Some k)

pub more_same : (xs : List ℕ) (P : Type 0) (v : ℕ) → (P → ⊥) → IsMore xs xs P v
more_same xs P v none = record { exact = λ u. (λ c. inl c, λ x. elim x [ inl c ↦ c | inr y ↦ absurd (none y.1) ]); ascends = λ up below. up }

pub more_as : (xs ys : List ℕ) (P Q : Type 0) (v : ℕ) → (P ↔ Q) → IsMore xs ys P v → IsMore xs ys Q v
more_as xs ys P Q v i h = record {
  exact = λ u. (λ c. elim ((h.exact u).0 c) [ inl x ↦ inl x | inr y ↦ inr (y.0, i.0 y.1) ], λ x. elim x [ inl c ↦ (h.exact u).1 (inl c) | inr y ↦ (h.exact u).1 (inr (y.0, i.1 y.1)) ]);
  ascends = h.ascends;
}

pub more_then : (xs ys zs : List ℕ) (P Q : Type 0) (v : ℕ) → IsMore xs ys P v → IsMore ys zs Q v → IsMore xs zs (P ⊎ Q) v
more_then xs ys zs P Q v a b = record {
  exact = λ u. (
    λ c. elim ((b.exact u).0 c) [
      | inl y ↦ elim ((a.exact u).0 y) [ inl x ↦ inl x | inr p ↦ inr (p.0, inl p.1) ]
      | inr q ↦ inr (q.0, inr q.1)
    ],
    λ x. elim x [
      | inl c ↦ (b.exact u).1 (inl ((a.exact u).1 (inl c)))
      | inr y ↦ elim y.1 [ inl p ↦ (b.exact u).1 (inl ((a.exact u).1 (inr (y.0, p)))) | inr q ↦ (b.exact u).1 (inr (y.0, q)) ]
    ],
  );
  ascends = λ up below. b.ascends (a.ascends up below) (λ u c. elim ((a.exact u).0 c) [ inl x ↦ below u x | inr y ↦ let e = y.0 in omega arith ]);
}

pub puts_none : (rows : List (Vec ℕ Global)) (P : ℕ → Type 0) (v : ℕ) → ((k : ℕ) → P k → ⊥) → Puts rows rows P v
puts_none rows P v none = record { count = refl; each = λ k r lt. more_same (get_or rows k r).items (P k) v (none k) }

pub puts_as : (xs ys : List (Vec ℕ Global)) (P Q : ℕ → Type 0) (v : ℕ) → ((k : ℕ) → P k ↔ Q k) → Puts xs ys P v → Puts xs ys Q v
puts_as xs ys P Q v i h = record { count = h.count; each = λ k r lt. more_as _ _ (P k) (Q k) v (i k) (h.each k r lt) }

pub puts_then : (xs ys zs : List (Vec ℕ Global)) (P Q : ℕ → Type 0) (v : ℕ) → Puts xs ys P v → Puts ys zs Q v → Puts xs zs (λ k. P k ⊎ Q k) v
puts_then xs ys zs P Q v a b = record {
  count = b.count ∙ a.count;
  each = λ k r lt. more_then _ _ _ (P k) (Q k) v (a.each k r lt) (b.each k r (subst (λ n. k < n) (sym a.count) lt));
}

abbrev lists_of : List (Vec ℕ Global) → List (List ℕ)
lists_of rows = map (λ l. l.items) rows

below_last : (xs : List ℕ) (v : ℕ) → (HasLast xs v → ⊥) → IsStrictlyIncreasing xs → ((u : ℕ) → Contains xs u → u ≤ v) → (u : ℕ) → Contains xs u → u < v
below_last xs v fresh up below u c =
    let lt = c.1 in
    let is : get_or xs c.0 0 ≡ u = get_or_default xs c.0 0 u lt ∙ c.2 in
    elim (cases_lt (c.0 + 1) (length xs)) [
      | inl within ↦
          let less = up c.0 within in
          let most = below (get_or xs (c.0 + 1) 0) (Contains-get_or xs (c.0 + 1) 0 within) in
          omega arith
      | inr past ↦ elim (cases_lt u v) [
        | inl less ↦ less
        | inr more ↦
            let most = below u c in
            let e : u ≡ v = omega arith in
            let last : length xs - 1 ≡ c.0 = omega arith in
            absurd (fresh (omega arith, ap (λ i. get_or xs i 0) last ∙ is ∙ e))
      ]
    ]

-- a place at the end of a row
last_more : (xs : List ℕ) (v : ℕ) → (HasLast xs v → ⊥) → IsMore xs (xs ++ v ∷ []) (Unit {0}) v
last_more xs v fresh = record {
  exact = λ u. (
    λ c. elim (Contains-push_cases xs v u c) [ inl x ↦ inl x | inr e ↦ inr (sym e, tt) ],
    λ x. elim x [ inl c ↦ Contains-append_left xs (v ∷ []) u c | inr y ↦ subst (Contains (xs ++ v ∷ [])) (sym y.0) (Contains-push xs v) ],
  );
  ascends = λ up below. push_ascends xs v up (λ u c. below_last xs v fresh up below u c);
}

last_there : (xs : List ℕ) (v : ℕ) → HasLast xs v → IsMore xs xs (Unit {0}) v
last_there xs v last = record {
  exact = λ u. (λ c. inl c, λ x. elim x [ inl c ↦ c | inr y ↦ subst (Contains xs) (last.1 ∙ sym y.0) (Contains-get_or xs _ 0 (let l = last.0 in omega arith)) ]);
  ascends = λ up below. up;
}

-- what was put to one of the rows
pub puts_one : (rows news : List (Vec ℕ Global)) (j v : ℕ) → IsPut (lists_of rows) (lists_of news) j v → Puts rows news (λ k. k ≡ j) v
unfolding IsPut
puts_one rows news j v p =
    let items : Vec ℕ Global → List ℕ = λ l. l.items in
    let old = length-map rows items in
    let new = length-map news items in
    let count : length news ≡ length rows = elim p [ inl s ↦ sym new ∙ ap length s.0 ∙ old | inr m ↦ sym new ∙ ap length m.2 ∙ length-set (lists_of rows) j _ ∙ old ] in record {
      count = count;
      each = λ k r lt.
          let read : get_or (lists_of rows) k [] ≡ (get_or rows k r).items = get_or-map items rows k r [] lt in
          let seen : get_or (lists_of news) k [] ≡ (get_or news k r).items = get_or-map items news k r [] (subst (λ n. k < n) (sym count) lt) in
          subst (λ xs. IsMore xs (get_or news k r).items (k ≡ j) v) read (subst (λ ys. IsMore (get_or (lists_of rows) k []) ys (k ≡ j) v) seen (elim (cases_eq k j) [
            | inl e ↦ more_as _ _ (Unit {0}) (k ≡ j) v (λ t. e, λ t. tt) (elim p [
              | inl s ↦
                  let within : k < length (lists_of rows) = subst (λ n. k < n) (sym old) lt in
                  let there = s.1 (subst (λ i. i < length (lists_of rows)) e within) in
                  subst (λ ls. IsMore (get_or (lists_of rows) k []) (get_or ls k []) (Unit {0}) v) (sym s.0) (last_there (get_or (lists_of rows) k []) v (subst (λ i. HasLast (get_or (lists_of rows) i []) v) (sym e) there))
              | inr m ↦
                  let at : get_or (lists_of news) j [] ≡ get_or (lists_of rows) j [] ++ v ∷ [] = ap (λ ls. get_or ls j []) m.2 ∙ get_or-set_same (lists_of rows) j (get_or (lists_of rows) j [] ++ v ∷ []) [] m.0 in
                  subst (λ i. IsMore (get_or (lists_of rows) i []) (get_or (lists_of news) i []) (Unit {0}) v) (sym e) (subst (λ ys. IsMore (get_or (lists_of rows) j []) ys (Unit {0}) v) (sym at) (last_more (get_or (lists_of rows) j []) v m.1))
            ])
            | inr other ↦ elim p [
              | inl s ↦ subst (λ ls. IsMore (get_or (lists_of rows) k []) (get_or ls k []) (k ≡ j) v) (sym s.0) (more_same (get_or (lists_of rows) k []) (k ≡ j) v other)
              | inr m ↦
                  let at : get_or (lists_of news) k [] ≡ get_or (lists_of rows) k [] = ap (λ ls. get_or ls k []) m.2 ∙ get_or-set_other (lists_of rows) j k (get_or (lists_of rows) j [] ++ v ∷ []) [] other in
                  subst (λ ys. IsMore (get_or (lists_of rows) k []) ys (k ≡ j) v) (sym at) (more_same (get_or (lists_of rows) k []) (k ≡ j) v other)
            ]
          ]));
    }

-- one digest more
pub found_then : (m : BTreeMap (List ℕ) ℕ) (ds : List (List ℕ)) (d : List ℕ) (k : ℕ) → (FoundIn m ds k ⊎ IsOf m d k) ↔ FoundIn m (ds ++ d ∷ []) k
found_then m ds d k = (
  λ x. elim x [ inl f ↦ (f.0, Contains-append_left ds (d ∷ []) f.0 f.1, f.2) | inr e ↦ (d, Contains-push ds d, e) ],
  λ f. elim (Contains-push_cases ds d f.0 f.1) [ inl c ↦ inl (f.0, c, f.2) | inr e ↦ inr (ap (mapped.get R m) e ∙ f.2) ],
)

-- the key of a digest has one place
pub found_at : (m : BTreeMap (List ℕ) ℕ) (d : List ℕ) (j : ℕ) → mapped.get R m d ≡ Some j → (k : ℕ) → (k ≡ j) ↔ IsOf m d k
found_at m d j at k = (λ e. at ∙ ap Some (sym e), λ f. one_some (sym f ∙ at))

append-nil : {X : Type 0} (xs : List X) → xs ++ [] ≡ xs
append-nil [] = refl
append-nil (x ∷ xs) = ap (λ l. x ∷ l) (append-nil xs)

-- what a walk over a set has had and what it has left
pub walked : (ds : List (List ℕ)) (ys : List (Bor (List ℕ))) (b : Bor (List ℕ)) (rest left : List (List ℕ)) → map (λ d. d.now) ys ++ left ≡ ds → left ≡ b.now ∷ rest → map (λ d. d.now) (ys ++ b ∷ []) ++ rest ≡ ds
walked ds [] b rest left h e = sym e ∙ h
walked ds (y ∷ ys) b rest left h e = ap (λ l. y.now ∷ l) (walked (map (λ d. d.now) ys ++ left) ys b rest left refl e) ∙ h

pub pushed_now : (ys : List (Bor (List ℕ))) (b : Bor (List ℕ)) → map (λ d. d.now) (ys ++ b ∷ []) ≡ map (λ d. d.now) ys ++ b.now ∷ []
pushed_now [] b = refl
pushed_now (y ∷ ys) b = ap (λ l. y.now ∷ l) (pushed_now ys b)

pub walked_all : (ds : List (List ℕ)) (ys : List (Bor (List ℕ))) (left : List (List ℕ)) → map (λ d. d.now) ys ++ left ≡ ds → left ≡ [] → map (λ d. d.now) ys ≡ ds
walked_all ds ys left h e = sym (append-nil (map (λ d. d.now) ys)) ∙ ap (λ l. map (λ (d : Bor (List ℕ)). d.now) ys ++ l) (sym e) ∙ h

pub equal_is : CmpEqualImpliesEq R
equal_is a b e = (same a b).0 (ap is_eq e)

pub in_set : (s : BTreeSet (List ℕ)) (d : List ℕ) → IsTrue (sorted.contains R s d) ↔ Contains s.keys d
in_set s d = btree_set_contains_iff nat_list_cmp_total equal_is s d

-- those found by the keys of an item are those whose keys vouch for the item
pub found_one : (m : BTreeMap (List ℕ) ℕ) (d : List ℕ) (k : ℕ) → IsOf m d k ↔ IsFound m (One d) k
found_one m d k = (λ e. (d, refl, e), λ f. ap (mapped.get R m) f.1 ∙ f.2)

pub found_many : (m : BTreeMap (List ℕ) ℕ) (ds : BTreeSet (List ℕ)) (k : ℕ) → IsAmong m ds k ↔ IsFound m (Many ds) k
found_many m ds k = (λ f. (f.0, (in_set ds f.0).1 f.1, f.2), λ f. (f.0, (in_set ds f.0).0 f.1, f.2))

pub placed_here : (pairs : BTreeMap (List ℕ) Keys) (m : BTreeMap (List ℕ) ℕ) (items : List (Bor (List ℕ))) (v : ℕ) (o : Bor (List ℕ)) (s : Keys) → IsAt items v (λ x. x.now ≡ o.now) → mapped.get R pairs (sha256 o.now) ≡ Some s
    → (k : ℕ) → IsFound m s k ↔ IsPlaced pairs m items v k
placed_here pairs m items v o s at is k = (
  λ f. (at.0, λ x. (f.0, (s, ap (λ (t : List ℕ). mapped.get R pairs (sha256 t)) (at.1 x) ∙ is, f.1), f.2)),
  λ p.
      let w = p.1 o in
      let t = ap (λ (t : List ℕ). mapped.get R pairs (sha256 t)) (at.1 o) ∙ is in
      let e : w.1.0 ≡ s = one_some (sym w.1.1 ∙ t) in
      (w.0, subst (λ z. HoldsKey z w.0) e w.1.2, w.2),
)

pub placed_none : (pairs : BTreeMap (List ℕ) Keys) (m : BTreeMap (List ℕ) ℕ) (items : List (Bor (List ℕ))) (v : ℕ) (o : Bor (List ℕ)) → IsAt items v (λ x. x.now ≡ o.now) → mapped.get R pairs (sha256 o.now) ≡ None
    → (k : ℕ) → IsPlaced pairs m items v k → ⊥
placed_none pairs m items v o at none k p = let w = p.1 o in none_some (sym none ∙ ap (λ (t : List ℕ). mapped.get R pairs (sha256 t)) (sym (at.1 o)) ∙ w.1.1)

pub vouched_some : (pairs : BTreeMap (List ℕ) Keys) (key item : List ℕ) (s : Keys) (b : Bool) → mapped.get R pairs item ≡ Some s → (IsTrue b ↔ HoldsKey s key) → IsTrue b ↔ HasPair pairs key item
vouched_some pairs key item s b is at = (λ t. (s, is, at.0 t), λ h. at.1 (subst (λ z. HoldsKey z key) (one_some (sym h.1 ∙ is)) h.2))

pub vouched_none : (pairs : BTreeMap (List ℕ) Keys) (key item : List ℕ) → mapped.get R pairs item ≡ None → IsTrue false ↔ HasPair pairs key item
vouched_none pairs key item is = (λ t. absurd (false≢true t), λ h. absurd (none_some (sym is ∙ h.1)))

-- one key more in a set
pub set_more : (s w : BTreeSet (List ℕ)) (kd : List ℕ) → ((q : List ℕ) → sorted.contains R w q ≡ cond (E kd q) true (sorted.contains R s q)) → (k : List ℕ)
    → IsTrue (sorted.contains R w k) ↔ (IsTrue (sorted.contains R s k) ⊎ (k ≡ kd))
set_more s w kd more k = elim (cases_Bool (E kd k)) [
  | inl y ↦ (λ t. inr (sym ((same kd k).0 y)), λ x. more k ∙ ap (λ b. cond b true (sorted.contains R s k)) y)
  | inr n ↦
      let now : sorted.contains R w k ≡ sorted.contains R s k = more k ∙ ap (λ b. cond b true (sorted.contains R s k)) n in (
        λ t. inl (sym now ∙ t),
        λ x. elim x [ inl t ↦ now ∙ t | inr e ↦ absurd (false≢true (sym n ∙ (same kd k).1 (sym e))) ],
      )
]

-- and in the set of none
pub set_first : (s w : BTreeSet (List ℕ)) (kd : List ℕ) → s.keys ≡ [] → ((q : List ℕ) → sorted.contains R w q ≡ cond (E kd q) true (sorted.contains R s q)) → (k : List ℕ) → IsTrue (sorted.contains R w k) ↔ (k ≡ kd)
set_first s w kd empty more k =
    let m = set_more s w kd more k in (
      λ t. elim (m.0 t) [
        | inl c ↦ let x = subst (λ ks. Contains ks k) empty ((in_set s k).0 c) in absurd (omega (arith, x.1))
        | inr e ↦ e
      ],
      λ e. m.1 (inr e),
    )

-- a pair is one that look-ups find
abbrev pub Finds : (List ℕ → Option Keys) → List ℕ → List ℕ → Type 0
Finds look key item = (keys : Keys) × (look item ≡ Some keys) × HoldsKey keys key

-- one pair more, where a map is known by what is looked up in it
module _ (old : BTreeMap (List ℕ) Keys) (look : List ℕ → Option Keys) (id : List ℕ) (w : Keys) (written : (q : List ℕ) → look q ≡ cond (E id q) (Some w) (mapped.get R old q)) where
  pub pair_pushed : (kd : List ℕ) → ((k : List ℕ) → HoldsKey w k ↔ (HasPair old k id ⊎ (k ≡ kd))) → (key item : List ℕ) → Finds look key item ↔ (HasPair old key item ⊎ ((key ≡ kd) × (item ≡ id)))
  pair_pushed kd more key item = elim (cases_Bool (E id item)) [
    | inl t ↦
        let e : id ≡ item = (same id item).0 t in
        let now : look item ≡ Some w = written item ∙ ap (λ b. cond b (Some w) (mapped.get R old item)) t in (
          λ h. elim ((more key).0 (subst (λ z. HoldsKey z key) (one_some (sym h.1 ∙ now)) h.2)) [ inl x ↦ inl (subst (HasPair old key) e x) | inr y ↦ inr (y, sym e) ],
          λ x. elim x [ inl h ↦ (w, now, (more key).1 (inl (subst (HasPair old key) (sym e) h))) | inr y ↦ (w, now, (more key).1 (inr y.0)) ],
        )
    | inr f ↦
        let now : look item ≡ mapped.get R old item = written item ∙ ap (λ b. cond b (Some w) (mapped.get R old item)) f in (
          λ h. inl (h.0, sym now ∙ h.1, h.2),
          λ x. elim x [ inl h ↦ (h.0, now ∙ h.1, h.2) | inr y ↦ absurd (false≢true (sym f ∙ (same id item).1 (sym y.1))) ],
        )
  ]

  pub pair_refused : ((k : List ℕ) → HoldsKey w k ↔ HasPair old k id) → (key item : List ℕ) → Finds look key item ↔ HasPair old key item
  pair_refused kept key item = elim (cases_Bool (E id item)) [
    | inl t ↦
        let e : id ≡ item = (same id item).0 t in
        let now : look item ≡ Some w = written item ∙ ap (λ b. cond b (Some w) (mapped.get R old item)) t in (
          λ h. subst (HasPair old key) e ((kept key).0 (subst (λ z. HoldsKey z key) (one_some (sym h.1 ∙ now)) h.2)),
          λ h. (w, now, (kept key).1 (subst (HasPair old key) (sym e) h)),
        )
    | inr f ↦
        let now : look item ≡ mapped.get R old item = written item ∙ ap (λ b. cond b (Some w) (mapped.get R old item)) f in
        (λ h. (h.0, sym now ∙ h.1, h.2), λ h. (h.0, now ∙ h.1, h.2))
  ]

pub had_some : (old : BTreeMap (List ℕ) Keys) (id : List ℕ) (s : Keys) → mapped.get R old id ≡ Some s → (key : List ℕ) → HasPair old key id ↔ HoldsKey s key
had_some old id s is key = (λ h. subst (λ z. HoldsKey z key) (one_some (sym h.1 ∙ is)) h.2, λ c. (s, is, c))

-- the keys of an item that has some, and of one that has none
pub keys_more : (old : BTreeMap (List ℕ) Keys) (id kd : List ℕ) (s w : Keys) → mapped.get R old id ≡ Some s → ((k : List ℕ) → HoldsKey w k ↔ (HoldsKey s k ⊎ (k ≡ kd))) → (k : List ℕ) → HoldsKey w k ↔ (HasPair old k id ⊎ (k ≡ kd))
keys_more old id kd s w is more k =
    let had = had_some old id s is k in (
      λ h. elim ((more k).0 h) [ inl x ↦ inl (had.1 x) | inr e ↦ inr e ],
      λ x. elim x [ inl h ↦ (more k).1 (inl (had.0 h)) | inr e ↦ (more k).1 (inr e) ],
    )

pub keys_kept : (old : BTreeMap (List ℕ) Keys) (id : List ℕ) (s w : Keys) → mapped.get R old id ≡ Some s → ((k : List ℕ) → HoldsKey w k ↔ HoldsKey s k) → (k : List ℕ) → HoldsKey w k ↔ HasPair old k id
keys_kept old id s w is kept k = let had = had_some old id s is k in (λ h. had.1 ((kept k).0 h), λ h. (kept k).1 (had.0 h))

pub keys_first : (old : BTreeMap (List ℕ) Keys) (id kd : List ℕ) → mapped.get R old id ≡ None → (k : List ℕ) → HoldsKey (One kd) k ↔ (HasPair old k id ⊎ (k ≡ kd))
keys_first old id kd is k = (λ e. inr (sym e), λ x. elim x [ inl h ↦ absurd (none_some (sym is ∙ h.1)) | inr e ↦ sym e ])

pub nothing_vouched : (pairs : BTreeMap (List ℕ) Keys) → ((key item : List ℕ) → HasPair pairs key item → ⊥) → (key item : List ℕ) → IsTrue false ↔ HasPair pairs key item
nothing_vouched pairs none key item = (λ t. absurd (false≢true t), λ h. absurd (none key item h))
