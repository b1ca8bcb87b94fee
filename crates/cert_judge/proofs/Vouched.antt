-- What is issued among the items that a key vouches for is what is issued among all.
use Rattle.std.specs.Prelude.{◌↔◌}
use Rattle.std.proofs.Common.{◌≡◌, ◌∙◌, sym, subst, ap, refl, ℕ, ◌+◌, ◌<◌, Bool, List, [], ◌∷◌, ◌++◌, length, length-append, map, arith, get_or, inl, inr, Bor, Vec, Global}
use Rattle.std.specs.List.{All, Any, Contains}
use Rattle.std.proofs.lemmas.Bool.{cases_lt}
use Rattle.std.proofs.lemmas.List.{get_or-map, length-map, get_or_default}
use Rattle.std.proofs.lemmas.List.Elements.{Contains-get_or}
use Rattle.cert_graph.specs.Entries.{IsAt}
use Rattle.cert_judge.specs.declared.judged.JudgedCertificate.{JudgedCertificate}
use Rattle.cert_judge.specs.declared.judged.JudgedList.{JudgedList}
use Rattle.cert_judge.specs.declared.judged.JudgedItem.{JudgedItem}
use Rattle.cert_judge.specs.declared.judged.JudgedItem.TheVariants.{Certificate as certificate_judged, List as list_judged, Other as other_judged}
use Rattle.cert_judge.specs.Standing.{octets_in, anything, WithCertificate, WithList, IsUsedBy, HasSerial, StandsBy, IsIssuedAt}
use Rattle.cert_judge.specs.Rows.{VouchesAt, IsRow, AreRows}
use Rattle.cert_judge.specs.Copies.{IsIn, octets_at, places_at, AreIssuedRows}
use Rattle.cert_judge.proofs.Listed.{in_pushed}
use Rattle.cert_judge.proofs.Grouping.{element}

module _ (V : List ℕ → List ℕ → Type 0) (key : List ℕ) where
  list_with : (P Q : JudgedList → Type 0) → ((l : JudgedList) → P l → V key l.octets.now → Q l) → (j : JudgedItem) → WithList P j → V key (octets_in j) → WithList Q j
  list_with P Q f (certificate_judged c) h v = h
  list_with P Q f (list_judged l) h v = f l h v
  list_with P Q f other_judged h v = h

  list_vouched : (P : JudgedList → Type 0) → ((l : JudgedList) → P l → V key l.octets.now) → (j : JudgedItem) → WithList P j → V key (octets_in j)
  list_vouched P f (certificate_judged c) h = absurd h
  list_vouched P f (list_judged l) h = f l h
  list_vouched P f other_judged h = absurd h

  list_mapped : (P Q : JudgedList → Type 0) → ((l : JudgedList) → P l → Q l) → (j : JudgedItem) → WithList P j → WithList Q j
  list_mapped P Q f (certificate_judged c) h = h
  list_mapped P Q f (list_judged l) h = f l h
  list_mapped P Q f other_judged h = h

  cert_with : (P Q : JudgedCertificate → Type 0) → ((c : JudgedCertificate) → P c → V key c.octets.now → Q c) → (j : JudgedItem) → WithCertificate P j → V key (octets_in j) → WithCertificate Q j
  cert_with P Q f (certificate_judged c) h v = f c h v
  cert_with P Q f (list_judged l) h v = h
  cert_with P Q f other_judged h v = h

  cert_vouched : (P : JudgedCertificate → Type 0) → ((c : JudgedCertificate) → P c → V key c.octets.now) → (j : JudgedItem) → WithCertificate P j → V key (octets_in j)
  cert_vouched P f (certificate_judged c) h = f c h
  cert_vouched P f (list_judged l) h = absurd h
  cert_vouched P f other_judged h = absurd h

  cert_mapped : (P Q : JudgedCertificate → Type 0) → ((c : JudgedCertificate) → P c → Q c) → (j : JudgedItem) → WithCertificate P j → WithCertificate Q j
  cert_mapped P Q f (certificate_judged c) h = f c h
  cert_mapped P Q f (list_judged l) h = h
  cert_mapped P Q f other_judged h = h

  -- a key vouches for the item at a place
  abbrev pub At : List JudgedItem → ℕ → Type 0
  At js v = IsAt js v (λ j. V key (octets_in j))

  pub vouches_iff : (js : List JudgedItem) (octets : List (Bor (List ℕ))) → map (λ o. o.now) octets ≡ map octets_in js → (v : ℕ) → VouchesAt V octets key v ↔ At js v
  vouches_iff js octets e v =
      let now : Bor (List ℕ) → List ℕ = λ o. o.now in
      let n : length octets ≡ length js = sym (length-map octets now) ∙ ap length e ∙ length-map js octets_in in
      let same : (o : Bor (List ℕ)) (j : JudgedItem) → v < length js → (get_or octets v o).now ≡ octets_in (get_or js v j) = λ o j lt.
      sym (get_or-map now octets v o [] (subst (λ k. v < k) (sym n) lt)) ∙ ap (λ l. get_or l v []) e ∙ get_or-map octets_in js v j [] lt in (
        λ h. let lt = subst (λ k. v < k) n h.0 in (lt, λ j. let o : Bor (List ℕ) = record { ref_ptr = (0, 0); now = [] } in subst (V key) (same o j lt) (h.1 o)),
        λ h. (subst (λ k. v < k) (sym n) h.0, λ o. let j = element js v h.0 in subst (V key) (sym (same o j.0 h.0)) (h.1 j.0)),
      )

  module _ (demand : Bool) (js : List JudgedItem) (issued row : List ℕ) (exact : (v : ℕ) → Contains row v ↔ (Contains issued v × At js v)) where
    to_row : (P Q : JudgedList → Type 0) → ((l : JudgedList) → P l → V key l.octets.now) → ((l : JudgedList) → P l → Q l) → Any (λ p. IsAt js p (WithList P)) issued → Any (λ p. IsAt js p (WithList Q)) row
    to_row P Q f g x =
        let at = x.4 in
        let here : At js x.1 = (at.0, λ d. list_vouched P f (get_or js x.1 d) (at.1 d)) in
        let c = (exact x.1).1 ((x.0, x.2, x.3), here) in
        (c.0, x.1, c.1, c.2, (at.0, λ d. list_mapped P Q g (get_or js x.1 d) (at.1 d)))

    from_row : (P Q : JudgedList → Type 0) → ((l : JudgedList) → P l → V key l.octets.now → Q l) → Any (λ p. IsAt js p (WithList P)) row → Any (λ p. IsAt js p (WithList Q)) issued
    from_row P Q f x =
        let at = x.4 in
        let c = (exact x.1).0 (x.0, x.2, x.3) in
        (c.0.0, x.1, c.0.1, c.0.2, (at.0, λ d. list_with P Q f (get_or js x.1 d) (at.1 d) (c.1.1 d)))

    stands_to : (serial : List ℕ) → StandsBy V demand js issued key serial → StandsBy anything demand js row [] serial
    stands_to serial s = record {
      kept = λ x. s.kept (from_row (λ l. IsUsedBy anything [] l × HasSerial serial l) (λ l. IsUsedBy V key l × HasSerial serial l) (λ l h v. (record { in_force = h.0.in_force; vouched = v }, h.1)) x);
      listed = λ d. to_row (IsUsedBy V key) (IsUsedBy anything []) (λ l h. h.vouched) (λ l h. record { in_force = h.in_force; vouched = tt }) (s.listed d);
    }

    stands_from : (serial : List ℕ) → StandsBy anything demand js row [] serial → StandsBy V demand js issued key serial
    stands_from serial s = record {
      kept = λ x. s.kept (to_row (λ l. IsUsedBy V key l × HasSerial serial l) (λ l. IsUsedBy anything [] l × HasSerial serial l) (λ l h. h.0.vouched) (λ l h. (record { in_force = h.0.in_force; vouched = tt }, h.1)) x);
      listed = λ d. from_row (IsUsedBy anything []) (IsUsedBy V key) (λ l h v. record { in_force = h.in_force; vouched = v }) (s.listed d);
    }

    pub issued_among : (v : ℕ) → (Contains row v × IsIssuedAt anything demand js row [] v) ↔ (Contains issued v × IsIssuedAt V demand js issued key v)
    issued_among v = (
      λ h. let c = (exact v).0 h.0 in
          (c.0, (h.1.0, λ d. cert_with _ _ (λ x s w. (w, stands_from x.serial.now s.1)) (get_or js v d) (h.1.1 d) (c.1.1 d))),
      λ h.
          let here : At js v = (h.1.0, λ d. cert_vouched _ (λ x s. s.0) (get_or js v d) (h.1.1 d)) in
          ((exact v).1 (h.0, here), (h.1.0, λ d. cert_mapped _ _ (λ x s. (tt, stands_to x.serial.now s.1)) (get_or js v d) (h.1.1 d))),
    )

pub mapped_contains : (f : ℕ → ℕ) (row : List ℕ) (v : ℕ) → Contains (map f row) v ↔ ((d : ℕ) × Contains row d × (f d ≡ v))
mapped_contains f row v = (
  λ c.
      let lt : c.0 < length row = subst (λ n. c.0 < n) (length-map row f) c.1 in
      let d = get_or row c.0 0 in
      (d, Contains-get_or row c.0 0 lt, sym (get_or-map f row c.0 0 v lt) ∙ c.2),
  λ x.
      let c = x.1 in
      (c.0, subst (λ n. c.0 < n) (sym (length-map row f)) c.1, get_or-map f row c.0 x.0 v c.1 ∙ ap f c.2 ∙ x.2),
)

-- the rows of the first keys
pub record IssuedRowsUpTo (V : List ℕ → List ℕ → Type 0) (demand : Bool) (js : List JudgedItem) (firsts : List ℕ) (keys : List (Bor (List ℕ))) (k : ℕ) (rows : List (List ℕ)) : Type 0 where
  pub count : length rows ≡ k
  pub each : (i d : ℕ) (key : Bor (List ℕ)) → i < k → IsIn rows i d ↔ ((d < length firsts) × IsIssuedAt V demand js firsts (get_or keys i key).now (get_or firsts d 0))

pub rows_none : (V : List ℕ → List ℕ → Type 0) (demand : Bool) (js : List JudgedItem) (firsts : List ℕ) (keys : List (Bor (List ℕ))) → IssuedRowsUpTo V demand js firsts keys 0 []
rows_none V demand js firsts keys = record { count = refl; each = λ i d key lt. absurd (omega arith) }

pub rows_whole : (V : List ℕ → List ℕ → Type 0) (demand : Bool) (js : List JudgedItem) (firsts : List ℕ) (keys : List (Bor (List ℕ))) (k : ℕ) (rows : List (List ℕ)) → k ≡ length keys → IssuedRowsUpTo V demand js firsts keys k rows → AreIssuedRows V demand js firsts keys rows
rows_whole V demand js firsts keys k rows end h = record { count = h.count ∙ end; each = λ i d key lt. h.each i d key (omega arith) }

-- the row of a key
pub vouched_row : (V : List ℕ → List ℕ → Type 0) (keys octets : List (Bor (List ℕ))) (numbers : List ℕ) (rows : List (Vec ℕ Global)) (k : ℕ) (row : Vec ℕ Global) → AreRows V keys octets numbers rows → k < length keys → row ≡ get_or rows k row → (key : Bor (List ℕ)) → IsRow V octets numbers (get_or keys k key).now row.items
vouched_row V keys octets numbers rows k row r lt at key = subst (λ (z : Vec ℕ Global). IsRow V octets numbers (get_or keys k key).now z.items) (sym at) (r.each k row key lt)

-- of a row of numbers of places
module _ (V : List ℕ → List ℕ → Type 0) (demand : Bool) (js : List JudgedItem) (firsts : List ℕ) (octets : List (Bor (List ℕ))) (numbers : List ℕ) (are : map (λ o. o.now) octets ≡ octets_at js firsts)
    (whole : (d : ℕ) → Contains numbers d ↔ (d < length firsts)) (within : All (λ v. v < length js) firsts) where
  vouched_iff : (key row : List ℕ) → IsRow V octets numbers key row → (d : ℕ) → Contains row d ↔ ((d < length firsts) × At V key js (get_or firsts d 0))
  vouched_iff key row h d =
      let now : Bor (List ℕ) → List ℕ = λ o. o.now in
      let f : ℕ → List ℕ = λ v. octets_in (get_or js v other_judged) in
      let n : length octets ≡ length firsts = sym (length-map octets now) ∙ ap length are ∙ length-map firsts f in
      let same : (o : Bor (List ℕ)) → d < length firsts → (get_or octets d o).now ≡ f (get_or firsts d 0) = λ o lt.
      sym (get_or-map now octets d o [] (subst (λ k. d < k) (sym n) lt)) ∙ ap (λ l. get_or l d []) are ∙ get_or-map f firsts d 0 [] lt in (
        λ c.
            let x = (h.exact d).0 c in
            let lt = (whole d).0 x.0 in
            let there = within d 0 lt in
            let o : Bor (List ℕ) = record { ref_ptr = (0, 0); now = [] } in
            (lt, (there, λ j. subst (λ i. V key (octets_in i)) (get_or_default js (get_or firsts d 0) other_judged j there) (subst (V key) (same o lt) (x.1.1 o)))),
        λ x. (h.exact d).1 ((whole d).1 x.0, (subst (λ k. d < k) (sym n) x.0, λ o. subst (V key) (sym (same o x.0)) (x.1.1 other_judged))),
      )

  places_iff : (key row : List ℕ) → IsRow V octets numbers key row → (v : ℕ) → Contains (places_at firsts row) v ↔ (Contains firsts v × At V key js v)
  places_iff key row h v =
      let m = mapped_contains (λ d. get_or firsts d 0) row v in (
        λ c.
            let x = m.0 c in
            let y = (vouched_iff key row h x.0).0 x.1 in
            (subst (Contains firsts) x.2 (Contains-get_or firsts x.0 0 y.0), subst (At V key js) x.2 y.1),
        λ x.
            let c = x.0 in
            let is : get_or firsts c.0 0 ≡ v = get_or_default firsts c.0 0 v c.1 ∙ c.2 in
            m.1 (c.0, (vouched_iff key row h c.0).1 (c.1, subst (At V key js) (sym is) x.1), is),
      )

  pub row_issued : (key row found : List ℕ) → IsRow V octets numbers key row → ((d : ℕ) → Contains found d ↔ (Contains row d × IsIssuedAt anything demand js (places_at firsts row) [] (get_or firsts d 0)))
      → (d : ℕ) → Contains found d ↔ ((d < length firsts) × IsIssuedAt V demand js firsts key (get_or firsts d 0))
  row_issued key row found h exact d =
      let u = get_or firsts d 0 in
      let among = issued_among V key demand js firsts (places_at firsts row) (places_iff key row h) u in (
        λ c.
            let x = (exact d).0 c in
            let y = (vouched_iff key row h d).0 x.0 in
            (y.0, (among.0 ((places_iff key row h u).1 (Contains-get_or firsts d 0 y.0, y.1), x.1)).1),
        λ x.
            let there : At V key js u = (x.1.0, λ j. cert_vouched V key _ (λ c s. s.0) (get_or js u j) (x.1.1 j)) in
            (exact d).1 ((vouched_iff key row h d).1 (x.0, there), (among.1 (Contains-get_or firsts d 0 x.0, x.1)).1),
      )

  pub rows_next : (keys : List (Bor (List ℕ))) (k : ℕ) (rows : List (List ℕ)) (row found : List ℕ) → ((key : Bor (List ℕ)) → IsRow V octets numbers (get_or keys k key).now row)
      → ((d : ℕ) → Contains found d ↔ (Contains row d × IsIssuedAt anything demand js (places_at firsts row) [] (get_or firsts d 0))) → IssuedRowsUpTo V demand js firsts keys k rows → IssuedRowsUpTo V demand js firsts keys (k + 1) (rows ++ found ∷ [])
  rows_next keys k rows row found is exact h =
      let count = h.count in
      record {
        count = let long = length-append rows (found ∷ []) in omega arith;
        each = λ i d key below.
            let p = in_pushed rows found i d in
            elim (cases_lt i k) [
              | inl less ↦
                  let e = h.each i d key less in (
                    λ x. elim (p.0 x) [ inl y ↦ e.0 y | inr y ↦ let same = y.0 in absurd (omega arith) ],
                    λ x. p.1 (inl (e.1 x)),
                  )
              | inr past ↦
                  let same : i ≡ k = omega arith in
                  let last : i ≡ length rows = omega arith in
                  let one = row_issued (get_or keys k key).now row found (is key) exact d in
                  let two = subst (λ j. Contains found d ↔ ((d < length firsts) × IsIssuedAt V demand js firsts (get_or keys j key).now (get_or firsts d 0))) (sym same) one in (
                    λ x. elim (p.0 x) [ inl y ↦ let lt = y.0 in absurd (omega arith) | inr y ↦ two.0 y.1 ],
                    λ x. p.1 (inr (last, two.1 x)),
                  )
            ];
      }

  pub row_within : (key row : List ℕ) → IsRow V octets numbers key row → All (λ d. d < length firsts) row
  row_within key row h k d lt = (whole (get_or row k d)).0 ((h.exact (get_or row k d)).0 (Contains-get_or row k d lt)).0
