-- One row more.
use Rattle.std.proofs.Common.{◌≡◌, ◌∙◌, ap, sym, subst, refl, ℕ, ◌+◌, ◌<◌, List, [], ◌∷◌, ◌++◌, length, length-append, arith, get_or, inl, inr, Bor, Vec}
use Rattle.std.specs.declared.alloc.Global.{Global}
use Rattle.std.proofs.Math.ListN.{get_or-append}
use Rattle.std.proofs.Math.Seq.{get_or-append_seam}
use Rattle.std.proofs.lemmas.Bool.{cases_lt}
use Rattle.cert_judge.specs.Rows.{IsRow, AreRows}

-- rows for the first keys
pub record RowsUpTo (V : List ℕ → List ℕ → Type 0) (keys items : List (Bor (List ℕ))) (chosen : List ℕ) (k : ℕ) (rows : List (Vec ℕ Global)) : Type 0 where
  pub count : length rows ≡ k
  pub each : (i : ℕ) (row : Vec ℕ Global) (key : Bor (List ℕ)) → i < k → IsRow V items chosen (get_or keys i key).now (get_or rows i row).items

pub rows_none : (V : List ℕ → List ℕ → Type 0) (keys items : List (Bor (List ℕ))) (chosen : List ℕ) → RowsUpTo V keys items chosen 0 []
rows_none V keys items chosen = record { count = refl; each = λ i row key lt. absurd (omega arith) }

pub rows_more : (V : List ℕ → List ℕ → Type 0) (keys items : List (Bor (List ℕ))) (chosen : List ℕ) (k : ℕ) (rows : List (Vec ℕ Global)) (row : Vec ℕ Global)
    → ((key : Bor (List ℕ)) → IsRow V items chosen (get_or keys k key).now row.items) → RowsUpTo V keys items chosen k rows → RowsUpTo V keys items chosen (k + 1) (rows ++ row ∷ [])
rows_more V keys items chosen k rows row is h = record {
  count = let n = length-append rows (row ∷ []) in let c = h.count in omega arith;
  each = λ i d key lt. elim (cases_lt i k) [
    | inl less ↦
        let c = h.count in
        let within : i < length rows = omega arith in
        subst (λ r. IsRow V items chosen (get_or keys i key).now r.items) (sym (get_or-append rows (row ∷ []) d i within)) (h.each i d key less)
    | inr past ↦
        let c = h.count in
        let last : i ≡ length rows = omega arith in
        let here : get_or (rows ++ row ∷ []) i d ≡ row = ap (λ j. get_or (rows ++ row ∷ []) j d) last ∙ get_or-append_seam rows row [] d in
        let same : k ≡ i = omega arith in
        subst (λ r. IsRow V items chosen (get_or keys i key).now r.items) (sym here) (subst (λ j. IsRow V items chosen (get_or keys j key).now row.items) same (is key))
  ];
}

pub rows_all : (V : List ℕ → List ℕ → Type 0) (keys items : List (Bor (List ℕ))) (chosen : List ℕ) (k : ℕ) (rows : List (Vec ℕ Global)) → k ≡ length keys → RowsUpTo V keys items chosen k rows → AreRows V keys items chosen rows
rows_all V keys items chosen k rows end h = record { count = h.count ∙ end; each = λ i row key lt. h.each i row key (subst (λ n. i < n) (sym end) lt) }
