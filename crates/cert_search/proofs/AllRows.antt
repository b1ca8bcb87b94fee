-- The rows of a search to its end, and what they say of each target.
use Rattle.std.proofs.Common.{◌≡◌, ℕ, ◌+◌, ◌-◌, ◌<◌, ◌≤◌, List, [], ◌∷◌, ◌++◌, length, take, get_or, Vec, Global, arith, ap, sym, ◌∙◌, subst, refl, inl, inr, length-append}
use Rattle.std.specs.Prelude.{All, ◌⊎◌, max}
use Rattle.std.proofs.lemmas.Bool.{cases_lt}
use Rattle.std.proofs.lemmas.List.{get_or-take, get_or_default, get_or_push, get_or_append_left, length-take-le, take-map}
use Rattle.std.proofs.lemmas.List.Elements.{All-push, All-nil, All-take}
use Rattle.cert_graph.specs.declared.reach.Reach.{Reach}
use Rattle.cert_graph.specs.declared.changes.Change.{Change}
use Rattle.cert_graph.specs.declared.nodes.Nodes.{Nodes}
use Rattle.cert_graph.specs.declared.inventory.Verdict.{Verdict}
use Rattle.cert_graph.specs.declared.inventory.Verdict.TheVariants.{FirstPath, Pathless, NoCertificate}
use Rattle.cert_graph.specs.Graph.{Graph}
use Rattle.cert_graph.specs.Adequate.{row_of, HasAnchored, IsAdequatePath, IsAdequateNone, changed, rows_by}
use Rattle.cert_graph.specs.Least.{IsLeast}
use Rattle.cert_graph.specs.Nodes.{graph_of}
use Rattle.cert_graph.specs.Tables.{IsTable}
use Rattle.cert_graph.specs.Changes.{last_by}
use Rattle.cert_graph.specs.Inventory.{IsAdequateVerdict, StandsAtLast, OfEach}
use Rattle.cert_graph.proofs.Changing.{items_by, rows_grow, length-rows, rows_front}
use Rattle.cert_graph.proofs.Sharing.{last_alone}
use Rattle.cert_search.specs.Exact.{HoldsExactly}
use Rattle.cert_search.specs.Rows.{IsRun, IsFixed, Opens}
use Rattle.cert_search.specs.Inventory.{AreAllRows, HasExactTable, IsShortVerdict, LeadsOn, LeadsAt, IsPathBy}
use Rattle.cert_search.proofs.Exactness.{exact_anchored, exact_successor, exact_no_elsewhere, fixed_successor, fixed_holds_all}
use Rattle.cert_search.proofs.Running.{push_exact}
use Rattle.cert_search.proofs.Answering.{none_adequate, path_short}

-- The rows so far.
pub record Raised (g : Graph) (rows : List (List Reach)) : Type 0 where
  pub whole : All (λ row. length row ≡ g.items) rows
  pub exact : (k : ℕ) → k < length rows → HoldsExactly g (k + 1) (row_of rows k)

pub none_raised : (g : Graph) → Raised g []
none_raised g = record { whole = All-nil (λ (row : List Reach). length row ≡ g.items); exact = λ k lt. absurd (omega arith) }

raised_push : (g : Graph) (rows : List (List Reach)) (row : List Reach) → Raised g rows → length row ≡ g.items → HoldsExactly g (length rows + 1) row → Raised g (rows ++ row ∷ [])
raised_push g rows row h whole e =
    let l = length-append rows (row ∷ []) in record {
      whole = All-push (λ r. length r ≡ g.items) rows row h.whole whole;
      exact = λ k lt. let short : k < length rows + 1 = omega arith in push_exact g rows row h.exact e k short;
    }

-- one row more, given by its changes
pub raised_more : (g : Graph) (none : List Reach) (steps pushed : List (Vec Change Global)) (x : Vec Change Global) (last row : List Reach) → pushed ≡ steps ++ x ∷ [] → last ≡ last_by none (items_by steps) → changed last x.items ≡ row
    → Raised g (rows_by none (items_by steps)) → length row ≡ g.items → HoldsExactly g (length steps + 1) row → Raised g (rows_by none (items_by pushed))
raised_more g none steps pushed x last row push e made h whole exact =
    subst (Raised g) (sym (rows_grow none steps pushed x last row push e made))
    (raised_push g (rows_by none (items_by steps)) row h whole (subst (λ (n : ℕ). HoldsExactly g (n + 1) row) (sym (length-rows none steps)) exact))

-- the last row, raised from itself
pub all_raised : (g : Graph) (none : List Reach) (steps pushed : List (Vec Change Global)) (x : Vec Change Global) (last row : List Reach) → pushed ≡ steps ++ x ∷ [] → last ≡ last_by none (items_by steps) → changed last x.items ≡ row
    → Raised g (rows_by none (items_by steps)) → length row ≡ g.items → HoldsExactly g (length steps + 1) row → IsFixed g row → length steps < max 1 g.items
    → AreAllRows g (rows_by none (items_by pushed))
all_raised g none steps pushed x last row push e made h whole exact fixed few =
    let same = rows_grow none steps pushed x last row push e made in
    let all = raised_more g none steps pushed x last row push e made h whole exact in
    let rows = rows_by none (items_by steps) in
    let l = length-append rows (row ∷ []) in
    let long : length rows + 1 ≡ length (rows_by none (items_by pushed)) = sym (ap length same ∙ l) in
    let size : length rows ≡ length steps = length-rows none steps in record {
      whole = all.whole;
      exact = all.exact;
      last = length rows;
      ends = long;
      fixed = subst (λ (rs : List (List Reach)). IsFixed g (row_of rs (length rows))) (sym same) (subst (IsFixed g) (sym (get_or_push rows row [] (length rows) refl)) fixed);
      bounded = omega arith;
    }

-- all rows are a table whose last row is stable, and exact
pub all_table : (g : Graph) (rows : List (List Reach)) → AreAllRows g rows → IsTable g rows
all_table g rows h = record {
  whole = h.whole;
  anchored = λ k d lt. subst (HasAnchored g) (get_or_default rows k [] d lt) (exact_anchored g k (row_of rows k) (h.exact k lt));
  successors = λ k lt. let lt0 : k < length rows = omega arith in exact_successor g (k + 1) (row_of rows k) (row_of rows (k + 1)) (h.exact k lt0) (h.exact (k + 1) lt);
}

pub all_stands : (g : Graph) (rows : List (List Reach)) → AreAllRows g rows → StandsAtLast g rows
all_stands g rows h k e =
    let ends = h.ends in
    let same : h.last ≡ k = omega arith in
    fixed_successor g (row_of rows k) (subst (λ (n : ℕ). IsFixed g (row_of rows n)) same h.fixed)

pub all_exact : (g : Graph) (rows : List (List Reach)) → AreAllRows g rows → HasExactTable g rows
all_exact g rows h = record {
  each = λ k lt. (h.exact k lt, exact_no_elsewhere g (k + 1) (row_of rows k) (h.exact k lt));
  last = λ k e.
      let ends = h.ends in
      let same : h.last ≡ k = omega arith in
      let lt : k < length rows = omega arith in
      fixed_holds_all g (k + 1) (row_of rows k) (h.exact k lt) (subst (λ (n : ℕ). IsFixed g (row_of rows n)) same h.fixed);
}

-- the rows up to the first that leads a target on are those of a search for it
pub run_to : (g : Graph) (target : ℕ) (rows : List (List Reach)) (k : ℕ) → AreAllRows g rows → ((a : ℕ) → g.AnchorEdge target a → ⊥) → IsLeast (LeadsAt g target rows) k → IsRun g target (take (k + 1) rows)
run_to g target rows k h alone least =
    let inside : k < length rows = least.0.0 in
    let l : length (take (k + 1) rows) ≡ k + 1 = length-take-le (k + 1) rows (omega arith) in record {
      whole = All-take (λ row. length row ≡ g.items) (k + 1) rows h.whole;
      exact = λ j lt.
          let below : j < k + 1 = omega arith in
          let within : j < length rows = omega arith in
          subst (HoldsExactly g (j + 1)) (sym (get_or-take (k + 1) rows j [] below)) (h.exact j within);
      closed = λ j lt o.
          let early : j < k = omega arith in
          let below : j < k + 1 = omega arith in
          let within : j < length rows = omega arith in
          elim (subst (Opens g target) (get_or-take (k + 1) rows j [] below) o).1 [
            | inl a ↦ alone a.0 a.1
            | inr x ↦ least.1 j early (within, (x.0, (x.1, x.2, x.3)))
          ];
    }

pub run_opens : (g : Graph) (target : ℕ) (rows : List (List Reach)) (k : ℕ) → g.Usable target → IsLeast (LeadsAt g target rows) k → Opens g target (row_of (take (k + 1) rows) k)
run_opens g target rows k usable least =
    let below : k < k + 1 = omega arith in
    let m = least.0.1 in
    subst (Opens g target) (sym (get_or-take (k + 1) rows k [] below)) (usable, inr (m.0, m.1.0, m.1.1, m.1.2))

-- a path by the first rows is adequate by its part of all
pub path_shown : (g : Graph) (target : ℕ) (rows : List (List Reach)) (n : ℕ) → n ≤ length rows → (verdict : Verdict) → IsPathBy g (take n rows) target verdict → IsAdequateVerdict g rows target verdict
path_shown g target rows n le (FirstPath ps a) h =
    let l : length (take n rows) ≡ n = length-take-le n rows le in
    let count : length (take n rows) + 1 ≡ length ps.items = h.count in
    let same : n ≡ length ps.items - 1 = omega arith in
    subst (λ (m : ℕ). IsAdequatePath g target ps.items a (take m rows)) same h
path_shown g target rows n le Pathless h = absurd h
path_shown g target rows n le NoCertificate h = absurd h

-- no path, by the last row
pub pathless_shown : (g : Graph) (target : ℕ) (rows : List (List Reach)) → AreAllRows g rows → g.IsCertificate target
    → ((g.Usable target → ⊥) ⊎ (g.Usable target × ((b : ℕ) → g.AnchorEdge target b → ⊥))) → (Opens g target (row_of rows (length rows - 1)) → ⊥) → IsAdequateVerdict g rows target Pathless
pathless_shown g target rows h cert closed shut =
    let ends = h.ends in
    let at : length rows - 1 ≡ h.last = omega arith in
    let within : h.last < length rows = omega arith in
    subst (IsAdequateNone g target) (sym (last_alone rows h.last h.ends))
    (none_adequate g target (row_of rows h.last) cert (h.whole h.last [] within) h.fixed (subst (λ (n : ℕ). Opens g target (row_of rows n) → ⊥) at shut) closed)

pub not_open : (g : Graph) (target : ℕ) (rows : List (List Reach)) → AreAllRows g rows → ((b : ℕ) → g.AnchorEdge target b → ⊥) → ((k : ℕ) → LeadsAt g target rows k → ⊥) → Opens g target (row_of rows (length rows - 1)) → ⊥
not_open g target rows h alone none o =
    let ends = h.ends in
    let within : length rows - 1 < length rows = omega arith in
    elim o.1 [ inl a ↦ alone a.0 a.1 | inr x ↦ none (length rows - 1) (within, (x.0, (x.1, x.2, x.3))) ]

pub not_open_last : (g : Graph) (target : ℕ) (rows : List (List Reach)) (k : ℕ) → k + 1 ≡ length rows → ((b : ℕ) → g.AnchorEdge target b → ⊥) → (LeadsOn g target (row_of rows k) → ⊥)
    → Opens g target (row_of rows (length rows - 1)) → ⊥
not_open_last g target rows k last alone none o =
    let at : length rows - 1 ≡ k = omega arith in
    elim (subst (λ (n : ℕ). Opens g target (row_of rows n)) at o).1 [ inl a ↦ alone a.0 a.1 | inr x ↦ none (x.0, (x.1, x.2, x.3)) ]

-- the first rows come of the first steps
pub rows_taken : (none : List Reach) (steps : List (Vec Change Global)) (n : ℕ) → rows_by none (items_by (take n steps)) ≡ take n (rows_by none (items_by steps))
rows_taken none steps n = ap (λ (xs : List (List Change)). rows_by none xs) (sym (take-map (λ (s : Vec Change Global). s.items) n steps)) ∙ rows_front none (items_by steps) n

-- one verdict more
pub each_push : (P : ℕ → Verdict → Type 0) (verdicts pushed : List Verdict) (x : Verdict) → pushed ≡ verdicts ++ x ∷ [] → P (length verdicts) x → OfEach P verdicts → OfEach P pushed
each_push P verdicts pushed x e p h =
    let l = length-append verdicts (x ∷ []) in
    subst (OfEach P) (sym e) (λ t lt d. elim (cases_lt t (length verdicts)) [
      | inl below ↦ subst (P t) (sym (get_or_append_left verdicts (x ∷ []) d t below)) (h t below d)
      | inr above ↦ let last : length verdicts ≡ t = omega arith in subst (P t) (sym (get_or_push verdicts x d t last)) (subst (λ (n : ℕ). P n x) last p)
    ])

-- each path of adequate verdicts is short
verdict_short : (nodes : Nodes) (rows : List (List Reach)) (target : ℕ) (verdict : Verdict) → IsAdequateVerdict (graph_of nodes) rows target verdict → IsShortVerdict (graph_of nodes) verdict
verdict_short nodes rows target (FirstPath ps a) h = path_short nodes target ps.items a (take (length ps.items - 1) rows) h
verdict_short nodes rows target Pathless h = tt
verdict_short nodes rows target NoCertificate h = tt

pub all_short : (nodes : Nodes) (rows : List (List Reach)) (verdicts : List Verdict) → OfEach (IsAdequateVerdict (graph_of nodes) rows) verdicts → All (IsShortVerdict (graph_of nodes)) verdicts
all_short nodes rows verdicts h = λ k d lt. verdict_short nodes rows k (get_or verdicts k d) (h k lt d)
