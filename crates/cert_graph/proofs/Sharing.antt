-- Parts of one table, and verdicts one after the other.
use Rattle.std.proofs.Common.{◌≡◌, ℕ, ◌+◌, ◌-◌, ◌<◌, ◌≤◌, List, [], ◌∷◌, length, take, drop, get_or, arith, ap, sym, ◌∙◌, subst, inl, inr}
use Rattle.std.specs.Prelude.{◌↔◌}
use Rattle.std.proofs.lemmas.Bool.{cases_lt}
use Rattle.std.proofs.lemmas.List.{get_or-take, get_or_default, length-take, drop_more, drop_all}
use Rattle.std.proofs.lemmas.List.Elements.{All-take}
use Rattle.cert_graph.specs.declared.reach.Reach.{Reach}
use Rattle.cert_graph.specs.declared.nodes.Nodes.{Nodes}
use Rattle.cert_graph.specs.declared.inventory.Verdict.{Verdict}
use Rattle.cert_graph.specs.declared.inventory.Verdict.TheVariants.{FirstPath, Pathless, NoCertificate}
use Rattle.cert_graph.specs.declared.inventory.Inventory.{Inventory}
use Rattle.cert_graph.specs.Graph.{Graph}
use Rattle.cert_graph.specs.Adequate.{row_of, HasAnchored, IsSuccessor}
use Rattle.cert_graph.specs.Tables.{IsTable, IsClosed}
use Rattle.cert_graph.specs.Nodes.{graph_of}
use Rattle.cert_graph.specs.Inventory.{IsTrueVerdict, IsAdequateVerdict, shared_rows, StandsAtLast, OfEach, IsAdequateInventory, IsTrueInventory}
use Rattle.cert_graph.proofs.True.{from_valid, first_path, no_path_from}
use Rattle.cert_graph.proofs.TableFacts.{none_iff}
use Rattle.std.specs.List.{HoldsAt}

-- the first rows of a table are a table
pub table_take : (g : Graph) (rows : List (List Reach)) (n : ℕ) → IsTable g rows → IsTable g (take n rows)
table_take g rows n t = record {
  whole = All-take (λ row. length row ≡ g.items) n rows t.whole;
  anchored = All-take (HasAnchored g) n rows t.anchored;
  successors = λ k lt.
      let l = length-take n rows in
      let here : k < n = omega arith in
      let next : k + 1 < n = omega arith in
      let within : k + 1 < length rows = omega arith in
      subst (λ (r : List Reach). IsSuccessor g r (row_of (take n rows) (k + 1))) (sym (get_or-take n rows k [] here))
      (subst (λ (s : List Reach). IsSuccessor g (row_of rows k) s) (sym (get_or-take n rows (k + 1) [] next)) (t.successors k within));
}

-- the last row is known by its place
pub last_iff : (g : Graph) (rows : List (List Reach)) (row : List Reach) (k : ℕ) → k + 1 ≡ length rows → row ≡ row_of rows k → {P : Type 0} → (P ↔ IsSuccessor g row row) → P ↔ StandsAtLast g rows
last_iff g rows row k last is h = (
  λ p j e. let same : k ≡ j = omega arith in
      subst (λ (i : ℕ). IsSuccessor g (row_of rows i) (row_of rows i)) same (subst (λ (r : List Reach). IsSuccessor g r r) is (h.0 p)),
  λ s. h.1 (subst (λ (r : List Reach). IsSuccessor g r r) (sym is) (s k last)),
)

pub last_alone : (rows : List (List Reach)) (k : ℕ) → k + 1 ≡ length rows → drop (length rows - 1) rows ≡ row_of rows k ∷ []
last_alone rows k last =
    let within : k < length rows = omega arith in
    let past : length rows ≤ k + 1 = omega arith in
    let at : length rows - 1 ≡ k = omega arith in
    ap (λ (n : ℕ). drop n rows) at ∙ drop_more rows k [] within ∙ ap (λ (rs : List (List Reach)). row_of rows k ∷ rs) (drop_all (k + 1) rows past)

-- that there is no path, by the last row of a table
pub pathless_iff : (nodes : Nodes) (target : ℕ) (rows : List (List Reach)) (row : List Reach) (k : ℕ) → (graph_of nodes).IsCertificate target → k + 1 ≡ length rows → row ≡ row_of rows k
    → IsTable (graph_of nodes) rows → StandsAtLast (graph_of nodes) rows → {P : Type 0} → (P ↔ IsClosed (graph_of nodes) row target) → P ↔ IsAdequateVerdict (graph_of nodes) rows target Pathless
pathless_iff nodes target rows row k cert last is t s h =
    let within : k < length rows = omega arith in
    none_iff nodes target (drop (length rows - 1) rows) row cert (last_alone rows k last ∙ ap (λ (r : List Reach). r ∷ []) (sym is))
    (subst (λ (r : List Reach). length r ≡ length nodes.items.items) (sym is) (t.whole k [] within))
    (subst (HasAnchored (graph_of nodes)) (sym is) (t.anchored k [] within))
    (subst (λ (r : List Reach). IsSuccessor (graph_of nodes) r r) (sym is) (s k last)) h

-- one verdict more
pub each_more : (P : ℕ → Verdict → Type 0) (verdicts : List Verdict) (i : ℕ) (x : Verdict) → i < length verdicts → x ≡ get_or verdicts i x → P i x
    → ((t : ℕ) → t < i → HoldsAt (P t) verdicts t) → (t : ℕ) → t < i + 1 → HoldsAt (P t) verdicts t
each_more P verdicts i x within is p h t lt = elim (cases_lt t i) [
  | inl below ↦ h t below
  | inr above ↦
      let same : i ≡ t = omega arith in
      subst (λ (n : ℕ). HoldsAt (P n) verdicts n) same (λ d. subst (P i) (is ∙ get_or_default verdicts i x d within) p)
]

pub each_refused : (P : ℕ → Verdict → Type 0) (verdicts : List Verdict) (i : ℕ) (x : Verdict) → i < length verdicts → x ≡ get_or verdicts i x → (P i x → ⊥) → OfEach P verdicts → ⊥
each_refused P verdicts i x within is refused h = refused (subst (P i) (sym is) (h i within x))

-- an adequate verdict is true
pub verdict_true : (g : Graph) (rows : List (List Reach)) (target : ℕ) (verdict : Verdict) → IsAdequateVerdict g rows target verdict → IsTrueVerdict g target verdict
verdict_true g rows target (FirstPath ps a) h = first_path g target ps.items a (take (length ps.items - 1) rows) h
verdict_true g rows target Pathless h = (h.certificate, λ ps a v. no_path_from g target (drop (length rows - 1) rows) h v.issuers a (from_valid g target ps a v))
verdict_true g rows target NoCertificate h = h

pub inventory_true : (g : Graph) (inventory : Inventory) → IsAdequateInventory g inventory → IsTrueInventory g inventory
inventory_true g inventory h = record {
  count = h.count;
  each = λ t within d. verdict_true g (shared_rows g inventory) t (get_or inventory.verdicts.items t d) (h.each t within d);
}

-- an inventory's parts, if its rows are written out
pub inventory_iff : (g : Graph) (inventory : Inventory) (rows : List (List Reach)) → rows ≡ shared_rows g inventory → length inventory.verdicts.items ≡ g.items → IsTable g rows → StandsAtLast g rows
    → {P : Type 0} → (P ↔ OfEach (IsAdequateVerdict g rows) inventory.verdicts.items) → P ↔ IsAdequateInventory g inventory
inventory_iff g inventory rows same count table stands h = (
  λ p. record {
    table = subst (IsTable g) same table;
    stands = subst (StandsAtLast g) same stands;
    count = count;
    each = subst (λ (rs : List (List Reach)). OfEach (IsAdequateVerdict g rs) inventory.verdicts.items) same (h.0 p);
  },
  λ x. h.1 (subst (λ (rs : List (List Reach)). OfEach (IsAdequateVerdict g rs) inventory.verdicts.items) (sym same) x.each),
)

-- no row is left of none
pub no_row_left : (rows : List (List Reach)) (row : List Reach) → length rows ≡ 0 → drop (length rows - 1) rows ≡ row ∷ [] → ⊥
no_row_left [] row none e = let size = ap (λ (rs : List (List Reach)). length rs) e in omega arith
no_row_left (r ∷ rows) row none e = omega arith
