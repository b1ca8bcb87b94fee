-- The rows of a search so far.
use Rattle.std.proofs.Common.{◌≡◌, ℕ, ◌+◌, ◌<◌, List, [], ◌∷◌, ◌++◌, length, Vec, Global, arith, ap, sym, ◌∙◌, subst, refl, inl, inr, length-append}
use Rattle.std.specs.Prelude.{All}
use Rattle.std.proofs.lemmas.List.{get_or_push, get_or_append_left}
use Rattle.std.proofs.lemmas.List.Elements.{All-push, All-nil}
use Rattle.std.proofs.lemmas.Bool.{cases_lt}
use Rattle.cert_graph.specs.declared.reach.Reach.{Reach}
use Rattle.cert_graph.specs.Graph.{Graph}
use Rattle.cert_graph.specs.Adequate.{row_of, changed, rows_by}
use Rattle.cert_search.specs.Exact.{HoldsExactly}
use Rattle.cert_search.specs.Rows.{IsRun, Opens}
use Rattle.cert_graph.specs.declared.changes.Change.{Change}
use Rattle.cert_graph.specs.Changes.{last_by}
use Rattle.cert_graph.proofs.Changing.{items_by, rows_grow, length-rows}

-- the rows so far, none of which opens the target
pub record SoFar (g : Graph) (target : ℕ) (rows : List (List Reach)) : Type 0 where
  pub whole : All (λ row. length row ≡ g.items) rows
  pub exact : (k : ℕ) → k < length rows → HoldsExactly g (k + 1) (row_of rows k)
  pub closed : (k : ℕ) → k < length rows → Opens g target (row_of rows k) → ⊥

pub push_exact : (g : Graph) (rows : List (List Reach)) (row : List Reach) → ((k : ℕ) → k < length rows → HoldsExactly g (k + 1) (row_of rows k)) → HoldsExactly g (length rows + 1) row
    → (k : ℕ) → k < length rows + 1 → HoldsExactly g (k + 1) (row_of (rows ++ row ∷ []) k)
push_exact g rows row h e k lt = elim (cases_lt k (length rows)) [
  | inl below ↦ subst (HoldsExactly g (k + 1)) (sym (get_or_append_left rows (row ∷ []) [] k below)) (h k below)
  | inr above ↦ let last : length rows ≡ k = omega arith in
      subst (HoldsExactly g (k + 1)) (sym (get_or_push rows row [] k last)) (subst (λ (n : ℕ). HoldsExactly g (n + 1) row) last e)
]

pub so_far_push : (g : Graph) (target : ℕ) (rows : List (List Reach)) (row : List Reach) → SoFar g target rows → length row ≡ g.items → HoldsExactly g (length rows + 1) row → (Opens g target row → ⊥) → SoFar g target (rows ++ row ∷ [])
so_far_push g target rows row h whole e closed =
    let l = length-append rows (row ∷ []) in record {
      whole = All-push (λ r. length r ≡ g.items) rows row h.whole whole;
      exact = λ k lt. let short : k < length rows + 1 = omega arith in push_exact g rows row h.exact e k short;
      closed = λ k lt. elim (cases_lt k (length rows)) [
        | inl below ↦ subst (λ (r : List Reach). Opens g target r → ⊥) (sym (get_or_append_left rows (row ∷ []) [] k below)) (h.closed k below)
        | inr above ↦ let last : length rows ≡ k = omega arith in subst (λ (r : List Reach). Opens g target r → ⊥) (sym (get_or_push rows row [] k last)) closed
      ];
    }

pub run_ends : (g : Graph) (target : ℕ) (rows : List (List Reach)) (row : List Reach) → SoFar g target rows → length row ≡ g.items → HoldsExactly g (length rows + 1) row → Opens g target row
    → IsRun g target (rows ++ row ∷ []) × Opens g target (row_of (rows ++ row ∷ []) (length rows))
run_ends g target rows row h whole e opens =
    let l = length-append rows (row ∷ []) in (
      record {
        whole = All-push (λ r. length r ≡ g.items) rows row h.whole whole;
        exact = λ k lt. let short : k < length rows + 1 = omega arith in push_exact g rows row h.exact e k short;
        closed = λ k lt. let below : k < length rows = omega arith in
            subst (λ (r : List Reach). Opens g target r → ⊥) (sym (get_or_append_left rows (row ∷ []) [] k below)) (h.closed k below);
      },
      subst (Opens g target) (sym (get_or_push rows row [] (length rows) refl)) opens,
    )

-- one row more, given by its changes
pub so_far_more : (g : Graph) (target : ℕ) (none : List Reach) (steps pushed : List (Vec Change Global)) (x : Vec Change Global) (last row : List Reach) → pushed ≡ steps ++ x ∷ [] → last ≡ last_by none (items_by steps) → changed last x.items ≡ row
    → SoFar g target (rows_by none (items_by steps)) → length row ≡ g.items → HoldsExactly g (length steps + 1) row → (Opens g target row → ⊥) → SoFar g target (rows_by none (items_by pushed))
so_far_more g target none steps pushed x last row push e made h whole exact closed =
    subst (SoFar g target) (sym (rows_grow none steps pushed x last row push e made))
    (so_far_push g target (rows_by none (items_by steps)) row h whole (subst (λ (n : ℕ). HoldsExactly g (n + 1) row) (sym (length-rows none steps)) exact) closed)

pub run_more : (g : Graph) (target : ℕ) (none : List Reach) (steps pushed : List (Vec Change Global)) (x : Vec Change Global) (last row : List Reach) → pushed ≡ steps ++ x ∷ [] → last ≡ last_by none (items_by steps) → changed last x.items ≡ row
    → SoFar g target (rows_by none (items_by steps)) → length row ≡ g.items → HoldsExactly g (length steps + 1) row → Opens g target row
    → IsRun g target (rows_by none (items_by pushed)) × ((k : ℕ) × (k + 1 ≡ length pushed) × Opens g target (row_of (rows_by none (items_by pushed)) k))
run_more g target none steps pushed x last row push e made h whole exact opens =
    let rows = rows_by none (items_by steps) in
    let size : length rows ≡ length steps = length-rows none steps in
    let same = rows_grow none steps pushed x last row push e made in
    let long : length steps + 1 ≡ length pushed = sym (ap length push ∙ length-append steps (x ∷ [])) in
    let run = run_ends g target rows row h whole (subst (λ (n : ℕ). HoldsExactly g (n + 1) row) (sym size) exact) opens in (
      subst (IsRun g target) (sym same) run.0,
      (length steps, long, subst (λ (rs : List (List Reach)). Opens g target (row_of rs (length steps))) (sym same) (subst (λ (n : ℕ). Opens g target (row_of (rows ++ row ∷ []) n)) size run.1)),
    )

pub none_so_far : (g : Graph) (target : ℕ) → SoFar g target []
none_so_far g target = record {
  whole = All-nil (λ (row : List Reach). length row ≡ g.items);
  exact = λ k lt. absurd (omega arith);
  closed = λ k lt. absurd (omega arith);
}
