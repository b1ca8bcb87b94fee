-- A set of octet strings is as large as its list exactly if none comes twice.
use Rattle.std.specs.Prelude.{◌↔◌, IsTrue}
use Rattle.std.proofs.Common.{◌≡◌, ◌≢◌, ◌∙◌, sym, subst, ℕ, ◌<◌, Bool, false, List, [], ◌∷◌, map, length, arith, Bor, eqb, Ordering}
use Rattle.std.specs.Bool.{Decides}
use Rattle.std.specs.List.{AllByRecursion, AllPairs, IsDistinct}
use Rattle.std.specs.Ordering.{on, nat_cmp, eq_by_cmp}
use Rattle.std.specs.Cmp.Lexicographic.{slice_cmp}
use Rattle.std.specs.Set.{distinct_count}
use Rattle.std.specs.BTreeSet as sorted
use Rattle.std.specs.BTreeSet.{BTreeSet, btree_set_len}
use Rattle.std.proofs.lemmas.Bool.{eqb-true, eq-eqb}
use Rattle.std.proofs.lemmas.Cmp.{on_total, nat_list_cmp_total, eq_by_cmp_equiv}
use Rattle.std.proofs.lemmas.List.{get_or-map, length-map}
use Rattle.std.proofs.lemmas.Map.Text.{is_eq-slice_cmp}
use Rattle.std.proofs.lemmas.Slice.Eq.{bytes_eq-Decides}
use Rattle.std.proofs.lemmas.Map.Made.{IsDistinct-from_count, distinct_count-from_IsDistinct, AllPairs-from_IsDistinct, IsDistinct-from_AllPairs}
use Rattle.std.proofs.lemmas.Map.Views.{btree_set_len-from_list}
use Rattle.cert_model.specs.Fields.{Extension}
use Rattle.cert_model.specs.View.{ext_view}
use Rattle.cert_model.specs.declared.fields.ExtField.{ExtField}
use Rattle.cert_model.specs.Extended.{AreDistinct}

abbrev pub E : List ℕ → List ℕ → Bool
E = eq_by_cmp (slice_cmp nat_cmp)

abbrev pub R : Bor (List ℕ) → Bor (List ℕ) → Ordering
R = on (λ (b : Bor (List ℕ)). b.now) (slice_cmp nat_cmp)

pub same : (a b : List ℕ) → Decides (E a b) (a ≡ b)
same a b = subst (λ r. Decides r (a ≡ b)) (sym (is_eq-slice_cmp a b)) (bytes_eq-Decides a b)

all_on : {X Y : Type 0} (f : X → Y) (P : Y → Type 0) (xs : List X) → AllByRecursion (λ x. P (f x)) xs ↔ AllByRecursion P (map f xs)
all_on f P [] = (λ h. tt, λ h. tt)
all_on f P (x ∷ xs) = let r = all_on f P xs in (λ h. (h.0, r.0 h.1), λ h. (h.0, r.1 h.1))

distinct_on : {X Y : Type 0} (f : X → Y) (e : Y → Y → Bool) (xs : List X) → IsDistinct (λ a b. e (f a) (f b)) xs ↔ IsDistinct e (map f xs)
unfolding IsDistinct
distinct_on f e [] = (λ h. tt, λ h. tt)
distinct_on f e (x ∷ xs) =
    let a = all_on f (λ y. e (f x) y ≡ false) xs in
    let r = distinct_on f e xs in
    (λ h. (a.0 h.0, r.0 h.1), λ h. (a.1 h.0, r.1 h.1))

-- pairs by what is seen of the elements
pairs_on : {X Y : Type 0} (f : X → Y) (P : Y → Y → Type 0) (xs : List X) → AllPairs (λ a b. P (f a) (f b)) xs ↔ AllPairs P (map f xs)
pairs_on f P [] = (λ h i j d lt below. absurd (omega arith), λ h i j d lt below. absurd (omega arith))
pairs_on f P (x ∷ xs) =
    let n = length-map (x ∷ xs) f in (
      λ h i j d lt below.
          let b : j < length (x ∷ xs) = omega arith in
          let a : i < length (x ∷ xs) = omega arith in
          rw (get_or-map f (x ∷ xs) i x d a, get_or-map f (x ∷ xs) j x d b) (h i j x lt b),
      λ h i j d lt below.
          let a : i < length (x ∷ xs) = omega arith in
          let r = h i j (f d) lt (omega arith) in
          rw (get_or-map f (x ∷ xs) i d (f d) a, get_or-map f (x ∷ xs) j d (f d) below) at r,
    )

pub count_decides : (es : List ExtField) (set : BTreeSet (Bor (List ℕ))) → sorted.IsFromIterResult R (map (λ e. e.identifier) es) set
    → IsTrue (eqb (btree_set_len set) (length es)) ↔ AreDistinct (map ext_view es)
count_decides es set h =
    let o = on_total (λ (b : Bor (List ℕ)). b.now) nat_list_cmp_total in
    let xs = map (λ e. e.identifier) es in
    let n : btree_set_len set ≡ distinct_count (eq_by_cmp R) xs = btree_set_len-from_list o xs set h in
    let m : length xs ≡ length es = length-map es (λ e. e.identifier) in
    let eq = eq_by_cmp R in
    let laws = eq_by_cmp_equiv o in
    let now : Bor (List ℕ) → List ℕ = λ b. b.now in
    let d = distinct_on now E xs in
    let p = pairs_on now (λ a b. a ≢ b) xs in
    let q = pairs_on (λ (e : ExtField). e.identifier) (λ a b. a.now ≢ b.now) es in
    let v = pairs_on ext_view (λ (e f : Extension). e.identifier ≢ f.identifier) es in (
      λ t.
          let count : distinct_count eq xs ≡ length xs = sym n ∙ eqb-true _ _ t ∙ sym m in
          v.0 (q.1 (p.1 (AllPairs-from_IsDistinct same (map now xs) (d.0 (IsDistinct-from_count laws xs count))))),
      λ pairs.
          let count = distinct_count-from_IsDistinct laws xs (d.1 (IsDistinct-from_AllPairs same (map now xs) (p.0 (q.0 (v.1 pairs))))) in
          eq-eqb _ _ (n ∙ count ∙ m),
    )
