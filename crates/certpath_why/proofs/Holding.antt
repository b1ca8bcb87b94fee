-- Holders of names and keys, one after the other.
use Rattle.std.specs.Prelude.{◌↔◌, ◌⊎◌}
use Rattle.std.proofs.Common.{◌≡◌, ◌∙◌, ap, sym, subst, refl, ℕ, ◌+◌, ◌-◌, ◌<◌, ◌≤◌, List, [], ◌∷◌, ◌++◌, length, length-append, map, arith, get_or, take, Bor, Vec, Global, Some, None, inl, inr}
use Rattle.std.specs.List.{All, Contains}
use Rattle.std.proofs.Math.ListN.{get_or-append}
use Rattle.std.proofs.Math.Seq.{get_or-append_seam}
use Rattle.std.proofs.lemmas.Bool.{cases_lt}
use Rattle.std.proofs.lemmas.List.{get_or_default, get_or-map, length-map, take_more, take_all}
use Rattle.std.proofs.lemmas.Option.{slice_get_past}
use Rattle.std.proofs.lemmas.List.Elements.{Contains-append_left, Contains-append_right, Contains-append_cases, Contains-get_or, Contains-push, Contains-push_cases}
use Rattle.cert_graph.proofs.PlacesOfNodes.{element_at}
use Rattle.cert_graph.specs.declared.buckets.Bucket.{Bucket}
use Rattle.cert_graph.specs.declared.places.Place.{Place}
use Rattle.cert_graph.specs.declared.places.Part.{Part}
use Rattle.cert_graph.specs.declared.places.Part.TheVariants.{Name, Key}
use Rattle.cert_graph.specs.Places.{shown_at, Shows}
use Rattle.cert_graph.specs.Buckets.{AreBuckets}
use Rattle.cert_judge.specs.Rows.{VouchesAt, AreRows}
use Rattle.certpath_why.specs.Adding.{Adds, IsRowOf}
use Rattle.certpath_why.specs.Classes.{AreClasses}
use Rattle.certpath_why.specs.declared.classes.Classes.{Classes}
use Rattle.certpath_why.specs.declared.holders.Holder.{Holder}
use Rattle.certpath_why.specs.declared.holders.Holders.{Holders}
use Rattle.certpath_why.specs.Holders.{IsHolder, IsOfKey, KeysAdded, NameAdded, AreHolders, HasMember, IsOfNames, IsSignerOf, IsNamedAt, IsInRow, IsInRows}
use Rattle.certpath_why.proofs.Adding.{adds_none, adds_as, adds_then, one_in}

-- ---- keys

abbrev IsAdded : List (Vec ℕ Global) → ℕ → ℕ → ℕ → ℕ → Type 0
IsAdded found from j c k = (m : ℕ) × (m < j) × (k ≡ from + m) × ((r : Vec ℕ Global) → Contains (get_or found m r).items c)

pub keys_none : (name : List ℕ) (keys : List Bucket) (found : List (Vec ℕ Global)) (h : Holders) → KeysAdded name keys found 0 h h
keys_none name keys found h = record {
  count = omega arith;
  kept = λ k o lt. refl;
  added = λ m o b lt. absurd (omega arith);
  rows = adds_none (IsAdded found (length h.all.items) 0) h.rows.items (λ c k p. let lt = p.1 in omega arith);
}

pub keys_more : (name : List ℕ) (keys : List Bucket) (found : List (Vec ℕ Global)) (j : ℕ) (old mid new : Holders) (o : Holder) (b : Bucket) (row : Vec ℕ Global) → j < length found → j < length keys → row ≡ get_or found j row → b ≡ get_or keys j b
    → IsOfKey name b o → KeysAdded name keys found j old mid → new.all.items ≡ mid.all.items ++ o ∷ [] → Adds (IsRowOf row.items (length mid.all.items ∷ [])) mid.rows.items new.rows.items → KeysAdded name keys found (j + 1) old new
keys_more name keys found j old mid new o b row lt less is own key h all adds =
    let from = length old.all.items in
    let long = length-append mid.all.items (o ∷ []) in
    let longer = ap length all in
    let count = h.count in record {
      count = omega arith;
      kept = λ k p below. ap (λ l. get_or l k p) all ∙ get_or-append mid.all.items (o ∷ []) p k (omega arith) ∙ h.kept k p below;
      added = λ m p d under. elim (cases_lt m j) [
        | inl first ↦
            let same : get_or new.all.items (from + m) p ≡ get_or mid.all.items (from + m) p = ap (λ l. get_or l (from + m) p) all ∙ get_or-append mid.all.items (o ∷ []) p (from + m) (omega arith) in
            subst (IsOfKey name (get_or keys m d)) (sym same) (h.added m p d first)
        | inr past ↦
            let here : m ≡ j = omega arith in
            let end : from + m ≡ length mid.all.items = omega arith in
            let last : get_or new.all.items (from + m) p ≡ o = ap (λ l. get_or l (from + m) p) all ∙ ap (λ i. get_or (mid.all.items ++ o ∷ []) i p) end ∙ get_or-append_seam mid.all.items o [] p in
            let bucket : get_or keys m d ≡ b = ap (λ i. get_or keys i d) here ∙ get_or_default keys j d b less ∙ sym own in
            subst (IsOfKey name (get_or keys m d)) (sym last) (subst (λ (x : Bucket). IsOfKey name x o) (sym bucket) key)
      ];
      rows = adds_as (λ c k. IsAdded found from j c k ⊎ IsRowOf row.items (length mid.all.items ∷ []) c k) (IsAdded found from (j + 1)) old.rows.items new.rows.items
          (λ c k. (
            λ x. elim x [
              | inl p ↦ let below = p.1 in (p.0, omega arith, p.2, p.3)
              | inr q ↦
                  let e = one_in (length mid.all.items) k q.1 in
                  (j, omega arith, omega arith, λ r. subst (λ (v : Vec ℕ Global). Contains v.items c) (is ∙ get_or_default found j row r lt) q.0)
            ],
            λ y. elim (cases_lt y.0 j) [
              | inl under ↦ inl (y.0, under, y.2, y.3)
              | inr past ↦
                  let below = y.1 in
                  let at = y.2 in
                  let here : y.0 ≡ j = omega arith in
                  let end : length mid.all.items ≡ k = omega arith in
                  inr (
                    subst (λ (v : Vec ℕ Global). Contains v.items c) (ap (λ n. get_or found n row) here ∙ sym is) (y.3 row),
                    subst (Contains (length mid.all.items ∷ [])) end (Contains-push [] (length mid.all.items)),
                  )
            ],
          )) (adds_then (IsAdded found from j) (IsRowOf row.items (length mid.all.items ∷ [])) old.rows.items mid.rows.items new.rows.items h.rows adds);
    }

-- ---- names

none_some : {q : List ℕ} → None ≡ Some q → ⊥
none_some e = cc

pub shows_below : (part : Part) (all : List Place) (w : ℕ) (q : List ℕ) → Shows part all w q → w < length all
shows_below part all w q s = elim (cases_lt w (length all)) [ inl lt ↦ lt | inr past ↦ absurd (none_some (sym (ap (shown_at part) (slice_get_past all w past)) ∙ s)) ]

-- a bucket of all members has exactly those of its name
pub named_iff : (members : List Place) (all : List ℕ) (names : List Bucket) (n : ℕ) (name : Bucket) → ((w : ℕ) → Contains all w ↔ (w < length members)) → AreBuckets (Shows Name members) all names → n < length names → name ≡ get_or names n name
    → (w : ℕ) → Contains name.places.items w ↔ Shows Name members w name.text.now
named_iff members all names n name whole are lt is w =
    let bucket = subst (λ (x : Bucket). (u : ℕ) → Contains x.places.items u ↔ (Contains all u × Shows Name members u x.text.now)) (sym is) (are.each n name lt).exact in
    (λ c. ((bucket w).0 c).1, λ s. (bucket w).1 ((whole w).1 (shows_below Name members w name.text.now s), s))

-- the numbers of the items of a name are chosen
pub chosen_of : (issued : List Place) (octets : List (Bor (List ℕ))) (classes : Classes) → AreClasses octets classes → (name : List ℕ) (places chosen : List ℕ) → ((v : ℕ) → Contains places v ↔ Shows Name issued v name)
    → ((v : ℕ) → Contains places v → v < length classes.numbers.items → Contains chosen (get_or classes.numbers.items v 0)) → (i : ℕ) → Shows Name issued i name → i < length octets → Contains chosen (get_or classes.numbers.items i 0)
chosen_of issued octets classes is name places chosen exact has i shows lt = let count = is.count in has i ((exact i).1 shows) (omega arith)

pub name_added : (V : List ℕ → List ℕ → Type 0) (members : List Place) (name places : List ℕ) (texts keys : List (Bor (List ℕ))) (chosen : List ℕ) (bs : List Bucket) (rows : List (Vec ℕ Global)) (old new : Holders)
    → keys ≡ map (λ (b : Bucket). b.text) bs → AreBuckets (Shows Key members) places bs → AreRows V keys texts chosen rows → KeysAdded name bs rows (length bs) old new → NameAdded V members name places texts chosen old new
name_added V members name places texts keys chosen bs rows old new e are all added =
    let many : length keys ≡ length bs = ap length e ∙ length-map bs (λ (b : Bucket). b.text) in record {
      keys = bs;
      found = rows;
      holders = λ k b w lt. (are.each k b lt).exact w;
      all = λ w key at shows.
          let a = are.complete w key at shows in
          (a.0, a.2, λ b. ap (λ (x : Bucket). x.text.now) (get_or_default bs a.0 b a.1 a.2 ∙ a.3) ∙ a.4);
      rows = λ k r b c lt.
          let less : k < length keys = omega arith in
          let is : get_or keys k b.text ≡ (get_or bs k b).text = ap (λ l. get_or l k b.text) e ∙ get_or-map (λ (x : Bucket). x.text) bs k b b.text lt in
          let row = (all.each k r b.text less).exact c in (
            λ h. let p = row.0 h in (p.0, subst (λ (x : Bor (List ℕ)). VouchesAt V texts x.now c) is p.1),
            λ h. row.1 (h.0, subst (λ (x : Bor (List ℕ)). VouchesAt V texts x.now c) (sym is) h.1),
          );
      added = added;
    }

pub rows_many : (V : List ℕ → List ℕ → Type 0) (chosen : List ℕ) (texts keys : List (Bor (List ℕ))) (rows : List (Vec ℕ Global)) (bs : List Bucket) → keys ≡ map (λ (b : Bucket). b.text) bs → AreRows V keys texts chosen rows → length rows ≡ length bs
rows_many V chosen texts keys rows bs e all = all.count ∙ ap length e ∙ length-map bs (λ (b : Bucket). b.text)

module _ (V : List ℕ → List ℕ → Type 0) (issued members : List Place) (octets : List (Bor (List ℕ))) (classes : Classes) (is : AreClasses octets classes) where
  pub holders_none : (names : List Bucket) (h : Holders) → h.all.items ≡ [] → length h.rows.items ≡ length classes.texts.items → All (λ (l : Vec ℕ Global). l.items ≡ []) h.rows.items
      → AreHolders V issued members octets classes (IsOfNames members names 0) h
  holders_none names h none count empty =
      let zero = ap length none in record {
        each = λ k o lt. absurd (omega arith);
        count = count;
        sound = λ c k r o t lt at. let nothing = subst (λ l. Contains l k) (empty c r (omega arith)) at in absurd (omega (arith, nothing.1));
        complete = λ i name key lt shows done v. absurd (omega (arith, done.1));
      }

  pub holders_more : (names : List Bucket) (n : ℕ) (name : Bucket) (chosen : List ℕ) (old new : Holders) → n < length names → name ≡ get_or names n name
      → ((w : ℕ) → Contains name.places.items w ↔ Shows Name members w name.text.now)
      → ((i : ℕ) → Shows Name issued i name.text.now → i < length octets → Contains chosen (get_or classes.numbers.items i 0))
      → AreHolders V issued members octets classes (IsOfNames members names n) old → NameAdded V members name.text.now name.places.items classes.texts.items chosen old new
      → AreHolders V issued members octets classes (IsOfNames members names (n + 1)) new
  holders_more names n name chosen old new lt own named has h a =
      let from = length old.all.items in
      let count = a.added.count in
      let wide = a.added.rows.count in record {
        each = λ k o below. elim (cases_lt k from) [
          | inl first ↦ subst (IsHolder members) (sym (a.added.kept k o first)) (h.each k o first)
          | inr past ↦
              let m : ℕ = k - from in
              let less : m < length a.keys = omega arith in
              let at : from + m ≡ k = omega arith in
              let b = (element_at a.keys m less).0 in
              let key = subst (λ i. IsOfKey name.text.now (get_or a.keys m b) (get_or new.all.items i o)) at (a.added.added m o b less) in
              λ w. (
                λ c.
                    let p = (a.holders m b w less).0 (subst (λ l. Contains l w) key.places_are c) in
                    (subst (Shows Name members w) (sym key.name_is) ((named w).0 p.0), subst (Shows Key members w) (sym key.key_is) p.1),
                λ s. subst (λ l. Contains l w) (sym key.places_are) ((a.holders m b w less).1 ((named w).1 (subst (Shows Name members w) key.name_is s.0), subst (Shows Key members w) key.key_is s.1)),
              )
        ];
        count = wide ∙ h.count;
        sound = λ c k r o t below at.
            let many = h.count in
            elim ((a.added.rows.exact c k r (omega arith)).0 at) [
              | inl there ↦
                  let s = h.sound c k r o t below there in
                  let first = s.0 in
                  (omega arith, subst (λ (x : Holder). V x.key.now (get_or classes.texts.items c t).now) (sym (a.added.kept k o first)) s.1)
              | inr p ↦
                  let less = p.1 in
                  let end = p.2 in
                  let b = (element_at a.keys p.0 less).0 in
                  let key = subst (λ i. IsOfKey name.text.now (get_or a.keys p.0 b) (get_or new.all.items i o)) (sym end) (a.added.added p.0 o b less) in
                  let row = (a.rows p.0 r b c less).0 (p.3 r) in
                  (omega arith, subst (λ q. V q (get_or classes.texts.items c t).now) (sym key.key_is) (row.1.1 t))
            ];
        complete = λ i text key below shows done v.
            let number = get_or classes.numbers.items i 0 in
            let within = (is.each i (element_at octets i below).0 below).0 in
            let many = h.count in
            elim (cases_lt done.0 n) [
              | inl first ↦
                  let f = h.complete i text key below shows (done.0, first, done.2) v in
                  let less = f.2 in (
                    f.0,
                    λ r. (a.added.rows.exact number f.0 r (omega arith)).1 (inl (f.1 r)),
                    omega arith,
                    λ o. let p = f.3 o in (ap (λ (x : Holder). x.name.now) (a.added.kept f.0 o less) ∙ p.0, ap (λ (x : Holder). x.key.now) (a.added.kept f.0 o less) ∙ p.1),
                  )
              | inr past ↦
                  let end = done.1 in
                  let here : done.0 ≡ n = omega arith in
                  let mine : get_or names done.0 name ≡ name = ap (λ j. get_or names j name) here ∙ sym own in
                  let d = subst (λ (x : Bucket). (x.text.now ≡ text) × ((w : ℕ) × Contains x.places.items w × Shows Key members w key)) mine (done.2 name) in
                  let k = a.all d.1.0 key d.1.1 d.1.2 in
                  let less = k.1 in
                  let chosen_here = has i (subst (Shows Name issued i) (sym d.0) shows) below in
                  let o = (element_at octets i below).0 in
                  let b = (element_at a.keys k.0 less).0 in
                  let vouched : VouchesAt V classes.texts.items (get_or a.keys k.0 b).text.now number = (within, λ t. subst (V (get_or a.keys k.0 b).text.now) (sym ((is.each i o below).1 t)) (subst (λ q. V q (get_or octets i o).now) (sym (k.2 b)) (v.1 o))) in (
                    from + k.0,
                    λ r. (a.added.rows.exact number (from + k.0) r (omega arith)).1 (inr (k.0, less, refl, λ s. (a.rows k.0 s b number less).1 (chosen_here, vouched))),
                    omega arith,
                    λ p. let key_of = a.added.added k.0 p b less in (key_of.name_is ∙ d.0, key_of.key_is ∙ k.2 b),
                  )
            ];
      }

  pub holders_all : (names : List Bucket) (all : List ℕ) (k : ℕ) (h : Holders) → ((w : ℕ) → Contains all w ↔ (w < length members)) → AreBuckets (Shows Name members) all names → k ≡ length names
      → ((w : ℕ) (q : List ℕ) → Shows Name members w q → w < length members)
      → AreHolders V issued members octets classes (IsOfNames members names k) h → AreHolders V issued members octets classes (HasMember members) h
  holders_all names all k h whole are end within a = record {
    each = a.each;
    count = a.count;
    sound = a.sound;
    complete = λ i name key lt shows done v.
        let there : Contains all done.0 = (whole done.0).1 (within done.0 name done.1) in
        let b = are.complete done.0 name there done.1 in
        let less : b.0 < length names = b.2 in
        a.complete i name key lt shows (
          b.0,
          omega arith,
          λ d.
              let text : (get_or names b.0 d).text.now ≡ name = ap (λ (x : Bucket). x.text.now) (get_or_default names b.0 d b.1 less ∙ b.3) ∙ b.4 in
              (text, (done.0, ((are.each b.0 d less).exact done.0).1 (there, subst (Shows Name members done.0) (sym text) done.1), done.2)),
        ) v;
  }

  -- who is in the row of an item signed it
  pub row_iff : (h : Holders) → AreHolders V issued members octets classes (HasMember members) h → (i : ℕ) (o : Bor (List ℕ)) (name : List ℕ) → i < length octets → Shows Name issued i name
      → (w : ℕ) → IsInRow h (get_or classes.numbers.items i 0) name w ↔ IsSignerOf V members name (get_or octets i o).now w
  row_iff h a i o name lt shows w =
      let number = get_or classes.numbers.items i 0 in
      let here = is.each i o lt in
      let within = here.0 in
      let many = a.count in (
        λ x.
            let r = (element_at h.rows.items number (omega arith)).0 in
            let t = (element_at classes.texts.items number within).0 in
            let holder : x.0 < length h.all.items = (a.sound number x.0 r (record { name = t; key = t; places = r }) t within (x.1 r)).0 in
            let p = (element_at h.all.items x.0 holder).0 in
            let s = a.sound number x.0 r p t within (x.1 r) in
            let n = x.2 p in
            let shown = (a.each x.0 p holder w).0 n.1 in
            (subst (Shows Name members w) n.0 shown.0, ((get_or h.all.items x.0 p).key.now, shown.1, subst (V (get_or h.all.items x.0 p).key.now) (here.1 t) s.1)),
        λ s.
            let f = a.complete i name s.1.0 lt shows (w, s.0, s.1.1) (lt, λ d. subst (λ (z : Bor (List ℕ)). V s.1.0 z.now) (get_or_default octets i o d lt) s.1.2) in (
              f.0,
              f.1,
              λ p. let n = f.3 p in (n.0, (a.each f.0 p f.2 w).1 (subst (Shows Name members w) (sym n.0) s.0, subst (Shows Key members w) (sym n.1) s.1.1)),
            ),
      )

-- ---- positions of a row

pub named_more : (h : Holders) (k : ℕ) (name : List ℕ) (o : Holder) (found new : List ℕ) → k < length h.all.items → o ≡ get_or h.all.items k o → o.name.now ≡ name → new ≡ found ++ o.places.items
    → (w : ℕ) → Contains new w ↔ (Contains found w ⊎ IsNamedAt h k name w)
named_more h k name o found new lt is same all w = (
  λ c. elim (Contains-append_cases found o.places.items w (subst (λ l. Contains l w) all c)) [
    | inl x ↦ inl x
    | inr y ↦ inr (λ p. subst (λ (z : Holder). (z.name.now ≡ name) × Contains z.places.items w) (is ∙ get_or_default h.all.items k o p lt) (same, y))
  ],
  λ x. subst (λ l. Contains l w) (sym all) (elim x [
    | inl c ↦ Contains-append_left found o.places.items w c
    | inr n ↦ Contains-append_right found o.places.items w (subst (λ (z : Holder). Contains z.places.items w) (sym is) (n o).1)
  ]),
)

pub named_same : (h : Holders) (k : ℕ) (name : List ℕ) (o : Holder) (found : List ℕ) → o ≡ get_or h.all.items k o → (o.name.now ≡ name → ⊥) → (w : ℕ) → Contains found w ↔ (Contains found w ⊎ IsNamedAt h k name w)
named_same h k name o found is other w = (λ c. inl c, λ x. elim x [ inl c ↦ c | inr n ↦ absurd (other (subst (λ (z : Holder). z.name.now ≡ name) (sym is) (n o).0)) ])

-- the numbers in a row are those of holders
pub row_within : (h : Holders) (c : ℕ) (row : List ℕ) (j : ℕ) → c < length h.rows.items → ((r : Vec ℕ Global) → row ≡ (get_or h.rows.items c r).items)
    → ((k : ℕ) (r : Vec ℕ Global) → Contains (get_or h.rows.items c r).items k → k < length h.all.items) → j < length row → get_or row j 0 < length h.all.items
row_within h c row j in_rows is within lt =
    let d = (element_at h.rows.items c in_rows).0 in
    within (get_or row j 0) d (subst (λ l. Contains l (get_or row j 0)) (is d) (Contains-get_or row j 0 lt))

-- of the first holders of a row
abbrev pub IsOfFirst : Holders → List ℕ → List ℕ → ℕ → Type 0
IsOfFirst h row name w = (k : ℕ) × Contains row k × IsNamedAt h k name w

pub first_none : (h : Holders) (row name : List ℕ) (w : ℕ) → Contains [] w ↔ IsOfFirst h (take 0 row) name w
first_none h row name w = (λ c. absurd (let lt = c.1 in omega arith), λ x. absurd (let at = x.1 in let lt = at.1 in omega arith))

pub first_more : (h : Holders) (row name : List ℕ) (j : ℕ) (found new : List ℕ) → j < length row → ((w : ℕ) → Contains found w ↔ IsOfFirst h (take j row) name w)
    → ((w : ℕ) → Contains new w ↔ (Contains found w ⊎ IsNamedAt h (get_or row j 0) name w)) → (w : ℕ) → Contains new w ↔ IsOfFirst h (take (j + 1) row) name w
first_more h row name j found new lt before more w =
    let k = get_or row j 0 in
    let longer = take_more row j 0 lt in (
      λ c. elim ((more w).0 c) [
        | inl x ↦ let f = (before w).0 x in (f.0, subst (λ l. Contains l f.0) (sym longer) (Contains-append_left (take j row) (k ∷ []) f.0 f.1), f.2)
        | inr n ↦ (k, subst (λ l. Contains l k) (sym longer) (Contains-push (take j row) k), n)
      ],
      λ f. (more w).1 (elim (Contains-push_cases (take j row) k f.0 (subst (λ l. Contains l f.0) longer f.1)) [
        | inl x ↦ inl ((before w).1 (f.0, x, f.2))
        | inr e ↦ inr (subst (λ i. IsNamedAt h i name w) (sym e) f.2)
      ]),
    )

pub first_whole : (h : Holders) (row name : List ℕ) (j : ℕ) (found sorted : List ℕ) → length row ≤ j → ((w : ℕ) → Contains found w ↔ IsOfFirst h (take j row) name w)
    → ((w : ℕ) → Contains sorted w ↔ Contains found w) → (w : ℕ) → Contains sorted w ↔ IsOfFirst h row name w
first_whole h row name j found sorted le before kept w =
    let iff = subst (λ l. Contains found w ↔ IsOfFirst h l name w) (take_all j row le) (before w) in
    (λ s. iff.0 ((kept w).0 s), λ x. (kept w).1 (iff.1 x))

pub first_row : (h : Holders) (c : ℕ) (row : List ℕ) (name : List ℕ) → c < length h.rows.items → ((r : Vec ℕ Global) → row ≡ (get_or h.rows.items c r).items) → (w : ℕ) → IsOfFirst h row name w ↔ IsInRow h c name w
first_row h c row name in_rows is w =
    let d = (element_at h.rows.items c in_rows).0 in
    (λ f. (f.0, λ r. subst (λ l. Contains l f.0) (is r) f.1, f.2), λ x. (x.0, subst (λ l. Contains l x.0) (sym (is d)) (x.1 d), x.2))

pub row_holder : (h : Holders) (c : ℕ) (row : List ℕ) → c < length h.rows.items → ((r : Vec ℕ Global) → row ≡ (get_or h.rows.items c r).items)
    → ((k : ℕ) (r : Vec ℕ Global) → Contains (get_or h.rows.items c r).items k → k < length h.all.items) → (k : ℕ) → Contains row k → k < length h.all.items
row_holder h c row in_rows is within k at = let d = (element_at h.rows.items c in_rows).0 in within k d (subst (λ l. Contains l k) (is d) at)

-- ---- the rows of several numbers

pub rows_none : (h : Holders) (numbers : List ℕ) (k : ℕ) → Contains [] k ↔ IsInRows h (take 0 numbers) k
rows_none h numbers k = (λ c. absurd (let lt = c.1 in omega arith), λ x. absurd (let at = x.1 in let lt = at.1 in omega arith))

pub rows_more : (h : Holders) (numbers : List ℕ) (j : ℕ) (row found new : List ℕ) → j < length numbers → get_or numbers j 0 < length h.rows.items → ((r : Vec ℕ Global) → row ≡ (get_or h.rows.items (get_or numbers j 0) r).items)
    → ((k : ℕ) → Contains found k ↔ IsInRows h (take j numbers) k) → new ≡ found ++ row → (k : ℕ) → Contains new k ↔ IsInRows h (take (j + 1) numbers) k
rows_more h numbers j row found new lt in_rows is before all k =
    let c = get_or numbers j 0 in
    let d = (element_at h.rows.items c in_rows).0 in
    let longer = take_more numbers j 0 lt in (
      λ at. elim (Contains-append_cases found row k (subst (λ l. Contains l k) all at)) [
        | inl x ↦ let f = (before k).0 x in (f.0, subst (λ l. Contains l f.0) (sym longer) (Contains-append_left (take j numbers) (c ∷ []) f.0 f.1), f.2)
        | inr y ↦ (c, subst (λ l. Contains l c) (sym longer) (Contains-push (take j numbers) c), λ r. subst (λ l. Contains l k) (is r) y)
      ],
      λ f. subst (λ l. Contains l k) (sym all) (elim (Contains-push_cases (take j numbers) c f.0 (subst (λ l. Contains l f.0) longer f.1)) [
        | inl x ↦ Contains-append_left found row k ((before k).1 (f.0, x, f.2))
        | inr e ↦ Contains-append_right found row k (subst (λ l. Contains l k) (sym (is d)) (subst (λ i. Contains (get_or h.rows.items i d).items k) (sym e) (f.2 d)))
      ]),
    )

pub rows_all : (h : Holders) (numbers : List ℕ) (j : ℕ) (found sorted : List ℕ) → length numbers ≤ j → ((k : ℕ) → Contains found k ↔ IsInRows h (take j numbers) k) → ((k : ℕ) → Contains sorted k ↔ Contains found k)
    → (k : ℕ) → Contains sorted k ↔ IsInRows h numbers k
rows_all h numbers j found sorted le before kept k =
    let iff = subst (λ l. Contains found k ↔ IsInRows h l k) (take_all j numbers le) (before k) in
    (λ s. iff.0 ((kept k).0 s), λ x. (kept k).1 (iff.1 x))

pub rows_holder : (h : Holders) (numbers row : List ℕ) → ((c : ℕ) → Contains numbers c → c < length h.rows.items) → ((c k : ℕ) (r : Vec ℕ Global) → Contains numbers c → Contains (get_or h.rows.items c r).items k → k < length h.all.items)
    → ((k : ℕ) → Contains row k ↔ IsInRows h numbers k) → (k : ℕ) → Contains row k → k < length h.all.items
rows_holder h numbers row in_rows within iff k at =
    let x = (iff k).0 at in
    let d = (element_at h.rows.items x.0 (in_rows x.0 x.1)).0 in
    within x.0 k d x.1 (x.2 d)

pub rows_named : (h : Holders) (numbers row name : List ℕ) → ((k : ℕ) → Contains row k ↔ IsInRows h numbers k) → (w : ℕ) → IsOfFirst h row name w ↔ ((c : ℕ) × Contains numbers c × IsInRow h c name w)
rows_named h numbers row name iff w = (
  λ f. let x = (iff f.0).0 f.1 in (x.0, x.1, (f.0, x.2, f.2)),
  λ x. let y = x.2 in (y.0, (iff y.0).1 (x.0, x.1, y.1), y.2),
)

-- ---- whether a row has a position

abbrev pub NoneOfFirst : Holders → List ℕ → List ℕ → Type 0
NoneOfFirst h row name = (k w : ℕ) → Contains row k → IsNamedAt h k name w → ⊥

pub none_first : (h : Holders) (row name : List ℕ) → NoneOfFirst h (take 0 row) name
none_first h row name k w at n = let lt = at.1 in omega arith

pub none_more : (h : Holders) (row name : List ℕ) (j : ℕ) → j < length row → NoneOfFirst h (take j row) name → ((w : ℕ) → IsNamedAt h (get_or row j 0) name w → ⊥) → NoneOfFirst h (take (j + 1) row) name
none_more h row name j lt before never k w at n = elim (Contains-push_cases (take j row) (get_or row j 0) k (subst (λ l. Contains l k) (take_more row j 0 lt) at)) [
  | inl x ↦ before k w x n
  | inr e ↦ never w (subst (λ i. IsNamedAt h i name w) (sym e) n)
]

pub none_row : (h : Holders) (c : ℕ) (row name : List ℕ) (j : ℕ) → c < length h.rows.items → length row ≤ j → ((r : Vec ℕ Global) → row ≡ (get_or h.rows.items c r).items) → NoneOfFirst h (take j row) name → (w : ℕ) → IsInRow h c name w → ⊥
none_row h c row name j in_rows le is none w x =
    let d = (element_at h.rows.items c in_rows).0 in
    none x.0 w (subst (λ l. Contains l x.0) (sym (take_all j row le ∙ is d)) (x.1 d)) x.2

pub some_row : (h : Holders) (c : ℕ) (row name : List ℕ) (j w : ℕ) → j < length row → ((r : Vec ℕ Global) → row ≡ (get_or h.rows.items c r).items) → IsNamedAt h (get_or row j 0) name w → IsInRow h c name w
some_row h c row name j w lt is n = (get_or row j 0, λ r. subst (λ l. Contains l (get_or row j 0)) (is r) (Contains-get_or row j 0 lt), n)

-- ---- whether a holder has one

pub named_there : (h : Holders) (k : ℕ) (name : List ℕ) (o : Holder) → k < length h.all.items → o ≡ get_or h.all.items k o → (w : ℕ) → ((o.name.now ≡ name) × Contains o.places.items w) ↔ IsNamedAt h k name w
named_there h k name o lt is w = (
  λ x p. subst (λ (z : Holder). (z.name.now ≡ name) × Contains z.places.items w) (is ∙ get_or_default h.all.items k o p lt) x,
  λ n. subst (λ (z : Holder). (z.name.now ≡ name) × Contains z.places.items w) (sym is) (n o),
)
