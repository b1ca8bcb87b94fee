-- Rows that are filled place by place.
use Rattle.std.specs.Prelude.{◌↔◌}
use Rattle.std.proofs.Common.{◌≡◌, ◌∙◌, ap, sym, subst, ℕ, ◌+◌, ◌<◌, List, [], length, arith, get_or, Bor, Vec, Global, inl, inr}
use Rattle.std.specs.List.{Contains, All}
use Rattle.std.specs.List.Sorted.{IsStrictlyIncreasing}
use Rattle.std.specs.BTreeMap.{BTreeMap}
use Rattle.std.proofs.lemmas.Bool.{cases_lt}
use Rattle.std.proofs.lemmas.List.{get_or_default}
use Rattle.std.proofs.lemmas.List.Kept.{AllPairs-from_increasing}
use Rattle.sha2.specs.Sha256.{sha256}
use Rattle.cert_graph.proofs.Sifted.{Sifted, sifted_none, sifted_whole}
use Rattle.cert_judge.specs.Rows.{VouchesAt, AreRows}
use Rattle.cert_vouchers.specs.declared.keys.Keys.{Keys}
use Rattle.cert_vouchers.specs.Vouching.{HasPair, VouchesBy, ArePlaced, IsMore, Puts, IsPlaced}

-- one place more of those that are chosen
pub sifted_put : (C : ℕ → Type 0) (ps : List ℕ) (k : ℕ) (out new : List ℕ) (P : Type 0) → IsStrictlyIncreasing ps → k < length ps → Sifted 0 C ps k out → IsMore out new P (get_or ps k 0) → (P ↔ C (get_or ps k 0)) → Sifted 0 C ps (k + 1) new
sifted_put C ps k out new P up lt h m i = record {
  ascends = m.ascends h.ascends (λ u c. let old = (h.exact u).0 c in let less = AllPairs-from_increasing ps up old.0 k 0 old.1 lt in let was = old.2 in omega arith);
  exact = λ u. (
    λ c. elim ((m.exact u).0 c) [
      | inl there ↦ let old = (h.exact u).0 there in let below = old.1 in (old.0, omega arith, old.2, old.3)
      | inr y ↦ let e = y.0 in (k, omega arith, omega arith, subst C (sym y.0) (i.0 y.1))
    ],
    λ x. elim (cases_lt x.0 k) [
      | inl less ↦ (m.exact u).1 (inl ((h.exact u).1 (x.0, less, x.2, x.3)))
      | inr past ↦
          let below = x.1 in
          let same : x.0 ≡ k = omega arith in
          let one : get_or ps k 0 ≡ 0 + u = subst (λ j. get_or ps j 0 ≡ 0 + u) same x.2 in
          let is : u ≡ get_or ps k 0 = omega arith in
          (m.exact u).1 (inr (is, i.1 (subst C is x.3)))
    ],
  );
}

pub record SiftedRows (V : List ℕ → List ℕ → Type 0) (keys items : List (Bor (List ℕ))) (chosen : List ℕ) (i : ℕ) (rows : List (Vec ℕ Global)) : Type 0 where
  pub count : length rows ≡ length keys
  pub each : (k : ℕ) (r : Vec ℕ Global) (key : Bor (List ℕ)) → k < length keys → Sifted 0 (VouchesAt V items (get_or keys k key).now) chosen i (get_or rows k r).items

pub rows_empty : (V : List ℕ → List ℕ → Type 0) (keys items : List (Bor (List ℕ))) (chosen : List ℕ) (rows : List (Vec ℕ Global)) → length rows ≡ length keys → All (λ l. l.items ≡ []) rows → SiftedRows V keys items chosen 0 rows
rows_empty V keys items chosen rows count none = record {
  count = count;
  each = λ k r key lt.
      let nil = none k r (subst (λ n. k < n) (sym count) lt) in
      subst (Sifted 0 (VouchesAt V items (get_or keys k key).now) chosen 0) (sym nil) (sifted_none 0 (VouchesAt V items (get_or keys k key).now) chosen);
}

-- the key at its place is the one that vouches
pub placed_iff : (pairs : BTreeMap (List ℕ) Keys) (m : BTreeMap (List ℕ) ℕ) (keys items : List (Bor (List ℕ))) → ArePlaced keys (length keys) m → (k v : ℕ) (key : Bor (List ℕ)) → k < length keys
    → IsPlaced pairs m items v k ↔ VouchesAt (VouchesBy pairs) items (get_or keys k key).now v
placed_iff pairs m keys items h k v key lt = (
  λ p. (p.0, λ o. let w = p.1 o in let at = (h w.0 k).0 w.2 in subst (λ d. HasPair pairs d (sha256 (get_or items v o).now)) (sym (at.1 key)) w.1),
  λ a. (a.0, λ o. (sha256 (get_or keys k key).now, a.1 o, (h (sha256 (get_or keys k key).now) k).1 (lt, λ other. ap (λ (b : Bor (List ℕ)). sha256 b.now) (get_or_default keys k other key lt)))),
)

pub rows_put : (pairs : BTreeMap (List ℕ) Keys) (m : BTreeMap (List ℕ) ℕ) (keys items : List (Bor (List ℕ))) (chosen : List ℕ) (i : ℕ) (rows news : List (Vec ℕ Global)) → ArePlaced keys (length keys) m → IsStrictlyIncreasing chosen → i < length chosen
    → SiftedRows (VouchesBy pairs) keys items chosen i rows → Puts rows news (IsPlaced pairs m items (get_or chosen i 0)) (get_or chosen i 0) → SiftedRows (VouchesBy pairs) keys items chosen (i + 1) news
rows_put pairs m keys items chosen i rows news placed up lt h p = record {
  count = p.count ∙ h.count;
  each = λ k r key small.
      sifted_put (VouchesAt (VouchesBy pairs) items (get_or keys k key).now) chosen i (get_or rows k r).items (get_or news k r).items (IsPlaced pairs m items (get_or chosen i 0) k) up lt (h.each k r key small)
      (p.each k r (subst (λ n. k < n) (sym h.count) small)) (placed_iff pairs m keys items placed k (get_or chosen i 0) key small);
}

pub rows_whole : (V : List ℕ → List ℕ → Type 0) (keys items : List (Bor (List ℕ))) (chosen : List ℕ) (i : ℕ) (rows : List (Vec ℕ Global)) → i ≡ length chosen → SiftedRows V keys items chosen i rows → AreRows V keys items chosen rows
rows_whole V keys items chosen i rows end h = record {
  count = h.count;
  each = λ k r key lt. let s = h.each k r key lt in record { ascends = s.ascends; exact = sifted_whole (VouchesAt V items (get_or keys k key).now) chosen i (get_or rows k r).items end s };
}

-- rows of no key
pub rows_keyless : (V : List ℕ → List ℕ → Type 0) (keys items : List (Bor (List ℕ))) (chosen : List ℕ) (rows : List (Vec ℕ Global)) → length keys ≡ 0 → length rows ≡ length keys → AreRows V keys items chosen rows
rows_keyless V keys items chosen rows none count = record { count = count; each = λ k r key lt. absurd (omega (arith, lt, none)) }

-- rows of keys that vouch for nothing
pub rows_bare : (V : List ℕ → List ℕ → Type 0) (keys items : List (Bor (List ℕ))) (chosen : List ℕ) (rows : List (Vec ℕ Global)) → ((key item : List ℕ) → V key item → ⊥) → length rows ≡ length keys → All (λ l. l.items ≡ []) rows → AreRows V keys items chosen rows
rows_bare V keys items chosen rows apart count bare = record {
  count = count;
  each = λ k r key lt.
      let nil = bare k r (subst (λ n. k < n) (sym count) lt) in record {
        ascends = subst IsStrictlyIncreasing (sym nil) (λ i within. absurd (omega arith));
        exact = λ v. (
          λ c. absurd (omega (arith, (subst (λ l. Contains l v) nil c).1)),
          λ x. absurd (apart (get_or keys k key).now (get_or items v (record { ref_ptr = (0, 0); now = [] })).now (x.1.1 (record { ref_ptr = (0, 0); now = [] }))),
        );
      };
}
