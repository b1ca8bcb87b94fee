-- Rows of serial numbers and places, as they are looked up.
use Rattle.std.specs.Prelude.{◌↔◌, ◌⊎◌, IsTrue}
use Rattle.std.proofs.Common.{◌≡◌, ◌∙◌, sym, refl, subst, ℕ, ◌+◌, ◌<◌, ◌≤◌, Bool, true, false, cond, not, ◌&&◌, List, [], ◌∷◌, map, length, arith, get_or, inl, inr, Bor, Ordering}
use Rattle.std.specs.List.{Contains, filter, list_any}
use Rattle.std.specs.List.Sorted.{IsStrictlyIncreasing, IsStrictlySortedBy}
use Rattle.std.specs.declared.cmp.Ordering.TheVariants.{Less, Equal, Greater}
use Rattle.std.specs.Ordering.{nat_cmp, ordering_then, is_le, is_lt, is_gt, is_eq}
use Rattle.std.specs.Cmp.Lexicographic.{slice_cmp}
use Rattle.std.specs.BTreeMap.{is_at}
use Rattle.std.proofs.lemmas.Bool.{cond-true, cond-false, cases_Bool, or_cases, or_left, or_right, false≢true}
use Rattle.std.proofs.lemmas.List.{get_or-map, length-map}
use Rattle.std.proofs.lemmas.List.Elements.{All-get_or, filter_passes, Contains-append_cases, Contains-append_right, Contains-push_cases}
use Rattle.std.proofs.lemmas.List.Kept.{IsStrictlySortedBy-filter}
use Rattle.std.proofs.lemmas.Map.Keys.{Less-from_sorted}
use Rattle.std.proofs.lemmas.Bool.Decides.{nat_tests}
use Rattle.std.proofs.lemmas.Map.Text.{is_eq-slice_cmp}
use Rattle.std.proofs.lemmas.Slice.Eq.{bytes_eq-Decides}
use Rattle.cert_reasons.specs.Rows.{row_cmp, is_row_of}

abbrev pub Row : Type 0
Row = Bor (List ℕ) × ℕ

-- ---- one row

in_range : (o : Ordering) (n m : ℕ) → (is_le (ordering_then o (nat_cmp 0 n)) && not (is_lt (ordering_then o (nat_cmp m n)))) ≡ true ↔ ((is_eq o ≡ true) × (n ≤ m))
in_range Less n m = (λ e. absurd (false≢true e), λ h. absurd (false≢true h.0))
in_range Equal n m = (λ e. grind (arith, nat_tests), λ h. grind (arith, nat_tests))
in_range Greater n m = (λ e. absurd (false≢true e), λ h. absurd (false≢true h.0))

at_place : (o : Ordering) (n p : ℕ) → (is_eq (ordering_then o (nat_cmp p n)) ≡ true) ↔ ((is_eq o ≡ true) × (p ≡ n))
at_place Less n p = (λ e. absurd (false≢true e), λ h. absurd (false≢true h.0))
at_place Equal n p = (λ e. grind (arith, nat_tests), λ h. grind (arith, nat_tests))
at_place Greater n p = (λ e. absurd (false≢true e), λ h. absurd (false≢true h.0))

-- octets are equal if they compare so
same_octets : (s t : List ℕ) → (is_eq (slice_cmp nat_cmp s t) ≡ true) ↔ (s ≡ t)
same_octets s t = subst (λ b. (b ≡ true) ↔ (s ≡ t)) (sym (is_eq-slice_cmp s t)) (bytes_eq-Decides s t)

abbrev pub word : List ℕ → Bor (List ℕ)
word text = record { ref_ptr = (0, 0); now = text }

row_in : (s : List ℕ) (m : ℕ) (k : Row) → (is_row_of s m k ≡ true) ↔ ((s ≡ k.0.now) × (k.1 ≤ m))
row_in s m k =
    let i = in_range (slice_cmp nat_cmp s k.0.now) k.1 m in
    let e = same_octets s k.0.now in
    (λ h. let p = i.0 h in (e.0 p.0, p.1), λ h. i.1 (e.1 h.0, h.1))

row_at : (s : List ℕ) (p : ℕ) (k : Row) → (is_at (row_cmp (word s, p)) k ≡ true) ↔ ((s ≡ k.0.now) × (p ≡ k.1))
row_at s p k =
    let i = at_place (slice_cmp nat_cmp s k.0.now) k.1 p in
    let e = same_octets s k.0.now in
    (λ h. let q = i.0 h in (e.0 q.0, q.1), λ h. i.1 (e.1 h.0, h.1))

-- ---- rows among others

none_in : {X : Type 0} (y : X) → Contains [] y → ⊥
none_in y h = let lt = h.1 in absurd (omega arith)

cons_cases : {X : Type 0} (x y : X) (xs : List X) → Contains (x ∷ xs) y → (x ≡ y) ⊎ Contains xs y
cons_cases x y xs h = elim (Contains-append_cases (x ∷ []) xs y h) [
  | inl one ↦ elim (Contains-push_cases [] x y one) [ inl none ↦ absurd (none_in y none) | inr e ↦ inl e ]
  | inr rest ↦ inr rest
]

cons_head : {X : Type 0} (x : X) (xs : List X) → Contains (x ∷ xs) x
cons_head x xs = (0, omega arith, refl)

cons_tail : {X : Type 0} (x y : X) (xs : List X) → Contains xs y → Contains (x ∷ xs) y
cons_tail x y xs h = Contains-append_right (x ∷ []) xs y h

abbrev pub places : List Row → List ℕ
places ks = map (λ (r : Row). r.1) ks

pub rows_sound : (s : List ℕ) (m p : ℕ) (ks : List Row) → Contains (places (filter (is_row_of s m) ks)) p → IsTrue (list_any (is_at (row_cmp (word s, p))) ks)
rows_sound s m p [] h = absurd (none_in p h)
rows_sound s m p (k ∷ ks) h =
    let rest = filter (is_row_of s m) ks in
    elim (cases_Bool (is_row_of s m k)) [
      | inl passed ↦
          let there : Contains (k.1 ∷ places rest) p = subst (λ (l : List Row). Contains (places l) p) (cond-true (is_row_of s m k) (k ∷ rest) rest passed) h in
          elim (cons_cases k.1 p (places rest) there) [
            | inl e ↦ or_left _ _ ((row_at s p k).1 (((row_in s m k).0 passed).0, sym e))
            | inr more ↦ or_right _ _ (rows_sound s m p ks more)
          ]
      | inr failed ↦
          let there : Contains (places rest) p = subst (λ (l : List Row). Contains (places l) p) (cond-false (is_row_of s m k) (k ∷ rest) rest failed) h in
          or_right _ _ (rows_sound s m p ks there)
    ]

pub rows_complete : (s : List ℕ) (m p : ℕ) (ks : List Row) → p ≤ m → IsTrue (list_any (is_at (row_cmp (word s, p))) ks) → Contains (places (filter (is_row_of s m) ks)) p
rows_complete s m p [] le h = absurd (false≢true h)
rows_complete s m p (k ∷ ks) le h =
    let rest = filter (is_row_of s m) ks in
    elim (or_cases (is_at (row_cmp (word s, p)) k) (list_any (is_at (row_cmp (word s, p))) ks) h) [
      | inl here ↦
          let at = (row_at s p k).0 here in
          let e = at.1 in
          let within : k.1 ≤ m = omega arith in
          let passed = (row_in s m k).1 (at.0, within) in
          subst (λ (l : List Row). Contains (places l) p) (sym (cond-true (is_row_of s m k) (k ∷ rest) rest passed)) (subst (Contains (k.1 ∷ places rest)) (sym e) (cons_head k.1 (places rest)))
      | inr more ↦
          let there = rows_complete s m p ks le more in
          elim (cases_Bool (is_row_of s m k)) [
            | inl passed ↦ subst (λ (l : List Row). Contains (places l) p) (sym (cond-true (is_row_of s m k) (k ∷ rest) rest passed)) (cons_tail k.1 p (places rest) there)
            | inr failed ↦ subst (λ (l : List Row). Contains (places l) p) (sym (cond-false (is_row_of s m k) (k ∷ rest) rest failed)) there
          ]
    ]

-- ---- their order

less_place : (o : Ordering) (m n : ℕ) → is_eq o ≡ true → ordering_then o (nat_cmp m n) ≡ Less → m < n
less_place Less m n e h = absurd (false≢true e)
less_place Equal m n e h = grind (arith, nat_tests)
less_place Greater m n e h = absurd (false≢true e)

pub rows_ascend : (s : List ℕ) (m : ℕ) (ks : List Row) → IsStrictlySortedBy row_cmp ks → IsStrictlyIncreasing (places (filter (is_row_of s m) ks))
rows_ascend s m ks up k lt =
    let fs = filter (is_row_of s m) ks in
    let long = length-map fs (λ (r : Row). r.1) in
    let d : Row = (word [], 0) in
    let second : k + 1 < length fs = omega arith in
    let first : k < length fs = omega arith in
    let a : Row = get_or fs k d in
    let b : Row = get_or fs (k + 1) d in
    let pass = filter_passes (is_row_of s m) ks in
    let one = ((row_in s m a).0 (All-get_or (λ x. is_row_of s m x ≡ true) fs k d first pass)).0 in
    let two = ((row_in s m b).0 (All-get_or (λ x. is_row_of s m x ≡ true) fs (k + 1) d second pass)).0 in
    let less : row_cmp a b ≡ Less = Less-from_sorted row_cmp fs k (k + 1) d (IsStrictlySortedBy-filter row_cmp (is_row_of s m) ks up) (omega arith) second in
    let below : a.1 < b.1 = less_place (slice_cmp nat_cmp a.0.now b.0.now) a.1 b.1 ((same_octets a.0.now b.0.now).1 (sym one ∙ two)) less in
    let e1 : get_or (places fs) k 0 ≡ a.1 = get_or-map (λ (r : Row). r.1) fs k d 0 first in
    let e2 : get_or (places fs) (k + 1) 0 ≡ b.1 = get_or-map (λ (r : Row). r.1) fs (k + 1) d 0 second in
    omega arith

-- ---- one row more

pub row_added : (serial s : List ℕ) (place p : ℕ) (was is : Bool) → is ≡ cond (is_eq (ordering_then (slice_cmp nat_cmp serial s) (nat_cmp place p))) true was → IsTrue is ↔ (IsTrue was ⊎ ((serial ≡ s) × (place ≡ p)))
row_added serial s place p was is e =
    let b = is_eq (ordering_then (slice_cmp nat_cmp serial s) (nat_cmp place p)) in
    let a = at_place (slice_cmp nat_cmp serial s) p place in
    let o = same_octets serial s in
    elim (cases_Bool b) [
      | inl passed ↦ let new = e ∙ cond-true b true was passed in (λ h. let q = a.0 passed in inr (o.0 q.0, q.1), λ h. new)
      | inr failed ↦
          let old = e ∙ cond-false b true was failed in (
            λ h. inl (sym old ∙ h),
            λ h. elim h [ inl x ↦ old ∙ x | inr x ↦ absurd (false≢true (sym failed ∙ a.1 (o.1 x.0, x.1))) ],
          )
    ]

not_greater : (o : Ordering) (m : ℕ) → is_eq o ≡ true → is_gt (ordering_then o (nat_cmp 0 m)) ≡ false
not_greater Less m e = absurd (false≢true e)
not_greater Equal m e = grind (arith, nat_tests)
not_greater Greater m e = absurd (false≢true e)

pub forward : (s : List ℕ) (m : ℕ) → is_gt (ordering_then (slice_cmp nat_cmp s s) (nat_cmp 0 m)) ≡ false
forward s m = not_greater (slice_cmp nat_cmp s s) m ((same_octets s s).1 refl)
