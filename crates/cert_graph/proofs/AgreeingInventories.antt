-- Graphs that agree have equal adequate inventories.
use Rattle.std.proofs.Common.{ℕ, ◌+◌, ◌-◌, ◌∙◌, List, length, take, drop, replicate, subst}
use Rattle.std.specs.Prelude.{◌↔◌}
use Rattle.cert_graph.specs.declared.reach.Reach.{Reach}
use Rattle.cert_graph.specs.declared.reach.Reach.TheVariants.{No}
use Rattle.cert_graph.specs.declared.inventory.Verdict.{Verdict}
use Rattle.cert_graph.specs.declared.inventory.Verdict.TheVariants.{FirstPath, Pathless, NoCertificate}
use Rattle.cert_graph.specs.declared.inventory.Inventory.{Inventory}
use Rattle.cert_graph.specs.Adequate.{row_of, rows_by}
use Rattle.cert_graph.specs.Graph.{Graph}
use Rattle.cert_graph.specs.Inventory.{IsAdequateVerdict, StandsAtLast, OfEach, IsAdequateInventory}
use Rattle.cert_graph.specs.Laws.{FitIsUsable, Agrees}
use Rattle.cert_graph.specs.Tables.{IsTable}
use Rattle.cert_graph.proofs.Agreeing.{anchored_same, successor_same, path_same, none_same, agreed_back, agreed_fit}
use Rattle.cert_graph.proofs.Changing.{items_by}

verdict_same : (g h : Graph) → Agrees g h → FitIsUsable h → (rows : List (List Reach)) (target : ℕ) (verdict : Verdict) → IsAdequateVerdict g rows target verdict → IsAdequateVerdict h rows target verdict
verdict_same g h e fu rows target (FirstPath ps a) k = path_same g h e fu target ps.items a (take (length ps.items - 1) rows) k
verdict_same g h e fu rows target Pathless k = none_same g h e target (drop (length rows - 1) rows) k
verdict_same g h e fu rows target NoCertificate k = λ x. k ((e.certificate target).1 x)

table_same : (g h : Graph) → Agrees g h → (rows : List (List Reach)) → IsTable g rows → IsTable h rows
table_same g h e rows t = record {
  whole = λ i d lt. t.whole i d lt ∙ e.items;
  anchored = λ i d lt v. anchored_same g h e _ v (t.anchored i d lt v);
  successors = λ i lt. successor_same g h e (row_of rows i) (row_of rows (i + 1)) (t.successors i lt);
}

inventory_same : (g h : Graph) → Agrees g h → FitIsUsable h → (inventory : Inventory) → IsAdequateInventory g inventory → IsAdequateInventory h inventory
inventory_same g h e fu inventory k =
    let told = λ (n : ℕ). rows_by (replicate n No) (items_by inventory.steps.items) in record {
      table = subst (λ (n : ℕ). IsTable h (told n)) e.items (table_same g h e (told g.items) k.table);
      stands = subst (λ (n : ℕ). StandsAtLast h (told n)) e.items (λ i last. successor_same g h e (row_of (told g.items) i) (row_of (told g.items) i) (k.stands i last));
      count = k.count ∙ e.items;
      each = subst (λ (n : ℕ). OfEach (IsAdequateVerdict h (told n)) inventory.verdicts.items) e.items
          (λ target within d. verdict_same g h e fu (told g.items) target _ (k.each target within d));
    }

pub agreed_inventory : (g h : Graph) → Agrees g h → FitIsUsable g → (inventory : Inventory) → IsAdequateInventory g inventory ↔ IsAdequateInventory h inventory
agreed_inventory g h e fu inventory = (
  λ k. inventory_same g h e (agreed_fit g h e fu) inventory k,
  λ k. inventory_same h g (agreed_back g h e) fu inventory k,
)
