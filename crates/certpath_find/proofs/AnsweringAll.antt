-- What is found of all nodes holds of all items, and says what is found of each.
use Rattle.std.specs.Prelude.{◌↔◌, max}
use Rattle.std.proofs.Common.{◌≡◌, ◌∙◌, ap, sym, subst, ℕ, ◌+◌, ◌<◌, ◌≤◌, Bool, List, length, map, replicate, arith, get_or, IsTrue}
use Rattle.std.specs.List.{All, HoldsAt}
use Rattle.cert_graph.specs.declared.reach.Reach.{Reach}
use Rattle.cert_graph.specs.declared.reach.Reach.TheVariants.{No}
use Rattle.cert_graph.specs.declared.answer.Answer.{Answer}
use Rattle.cert_graph.specs.declared.inventory.Inventory.{Inventory}
use Rattle.cert_graph.specs.declared.inventory.Verdict.{Verdict}
use Rattle.cert_graph.specs.declared.inventory.Verdict.TheVariants.{FirstPath, Pathless, NoCertificate}
use Rattle.cert_graph.specs.Adequate.{row_of, IsTrueAnswer, rows_by}
use Rattle.cert_graph.specs.Graph.{Graph}
use Rattle.cert_graph.specs.Inventory.{shared_rows, IsTrueVerdict, OfEach, IsAdequateInventory, IsTrueInventory}
use Rattle.cert_graph.specs.Laws.{Agrees, FitIsUsable, UsableIsCertificate}
use Rattle.cert_graph.specs.LawsOfInventories.{IsVerdictOf}
use Rattle.cert_graph.proofs.AgreeingInventories.{agreed_inventory}
use Rattle.cert_graph.proofs.Changing.{items_by}
use Rattle.cert_graph.proofs.OneInventory.{inventory_answers}
use Rattle.cert_graph.proofs.Sharing.{inventory_true}
use Rattle.std.proofs.lemmas.List.{length-map}
use Rattle.cert_judge.specs.Judging.{IsUsable}
use Rattle.cert_judge.specs.Revoking.{Item, JudgingContext}
use Rattle.cert_judge.specs.Classed.{AreClassed}
use Rattle.cert_judge.specs.ItemGraph.{graph_of_items}
use Rattle.cert_search.specs.Inventory.{HasExactTable, IsShortVerdict}
use Rattle.cert_search.proofs.Carried.{exact_same, all_same, elsewhere_same}
use Rattle.certpath_find.specs.Answered.{HoldsOfItems}
use Rattle.certpath_find.specs.AnsweredAll.{IsFoundOfAll, VerdictNamesCertificates}
use Rattle.certpath_find.proofs.Answering.{one_classing, certificate_at}

table_same : (g h : Graph) → Agrees g h → (rows : List (List Reach)) → HasExactTable g rows → HasExactTable h rows
table_same g h e rows t = record {
  each = λ k lt. let x = t.each k lt in (exact_same g h e (k + 1) (row_of rows k) x.0, elsewhere_same g h e (row_of rows k) x.1);
  last = λ k is. all_same g h e (row_of rows k) (t.last k is);
}

exact_table_same : (g h : Graph) → Agrees g h → (inventory : Inventory) → HasExactTable g (shared_rows g inventory) → HasExactTable h (shared_rows h inventory)
exact_table_same g h e inventory t =
    let told = λ (n : ℕ). rows_by (replicate n No) (items_by inventory.steps.items) in
    subst (λ (n : ℕ). HasExactTable h (told n)) e.items (table_same g h e (told g.items) t)

short_same : (g h : Graph) → Agrees g h → (verdict : Verdict) → IsShortVerdict g verdict → IsShortVerdict h verdict
short_same g h e (FirstPath ps a) s = (s.0, subst (λ n. length ps.items ≤ n) e.items s.1)
short_same g h e Pathless s = tt
short_same g h e NoCertificate s = tt

-- what a search of all nodes found, over a graph that agrees
pub found_of_all : (g h : Graph) → Agrees g h → FitIsUsable g → (inventory : Inventory) → IsAdequateInventory g inventory → HasExactTable g (shared_rows g inventory) → All (IsShortVerdict g) inventory.verdicts.items
    → (1 ≤ length inventory.steps.items) × (length inventory.steps.items ≤ max 1 g.items) → IsFoundOfAll h inventory
found_of_all g h e fit inventory adequate exact short bounded =
    let there = (agreed_inventory g h e fit inventory).0 adequate in record {
      adequate = there;
      holds = inventory_true h inventory there;
      exact = exact_table_same g h e inventory exact;
      short = λ k d lt. short_same g h e (get_or inventory.verdicts.items k d) (short k d lt);
      bounded = (bounded.0, subst (λ n. length inventory.steps.items ≤ max 1 n) e.items bounded.1);
    }

names_certificates_at : (r : JudgingContext) (octets : List (List ℕ)) (items anchors : List Item) (target : ℕ) (verdict : Verdict) → AreClassed octets items → IsTrueVerdict (graph_of_items r items anchors) target verdict
    → VerdictNamesCertificates octets verdict
names_certificates_at r octets items anchors target (FirstPath ps a) classed first = λ k d lt. certificate_at octets items (λ x. IsUsable (r.Processes x.octets) r.moment) (get_or ps.items k d) classed (first.valid.usable k d lt)
names_certificates_at r octets items anchors target Pathless classed none = tt
names_certificates_at r octets items anchors target NoCertificate classed none = tt

pub all_name_certificates : (r : JudgingContext) (octets : List (List ℕ)) (items anchors : List Item) (inventory : Inventory) → AreClassed octets items → IsTrueInventory (graph_of_items r items anchors) inventory
    → All (VerdictNamesCertificates octets) inventory.verdicts.items
all_name_certificates r octets items anchors inventory classed holds = λ k d lt. names_certificates_at r octets items anchors k (get_or inventory.verdicts.items k d) classed (holds.each k lt d)

pub check_all_says_yes : (r : JudgingContext) (items anchors : List (List ℕ)) (inventory : Inventory) (said : Bool) → HoldsOfItems r items anchors (λ g. IsTrue said ↔ IsAdequateInventory g inventory)
    → HoldsOfItems r items anchors (λ g. IsAdequateInventory g inventory) → IsTrue said
check_all_says_yes r items anchors inventory said check find =
    let a = one_classing items find.0 check.0 find.2 check.2 in
    let b = one_classing anchors find.1 check.1 find.3 check.3 in
    check.4.1 (subst (λ xs. IsAdequateInventory (graph_of_items r xs check.1) inventory) a (subst (λ ys. IsAdequateInventory (graph_of_items r find.0 ys) inventory) b find.4))

usable_is_certificate : (r : JudgingContext) (items anchors : List Item) → UsableIsCertificate (graph_of_items r items anchors)
usable_is_certificate r items anchors v u = (u.0, λ d. let c = u.1 d in (c.0, c.1, tt))

pub says_what_find_says : (r : JudgingContext) (items anchors : List (List ℕ)) (inventory : Inventory) (target : ℕ) (answer : Answer) → target < length items → HoldsOfItems r items anchors (λ g. IsTrueInventory g inventory)
    → HoldsOfItems r items anchors (λ g. IsTrueAnswer g target answer) → HoldsAt (IsVerdictOf answer) inventory.verdicts.items target
says_what_find_says r items anchors inventory target answer lt all one =
    let a = one_classing items one.0 all.0 one.2 all.2 in
    let b = one_classing anchors one.1 all.1 one.3 all.3 in
    let there = subst (λ xs. IsTrueAnswer (graph_of_items r xs all.1) target answer) a (subst (λ ys. IsTrueAnswer (graph_of_items r one.0 ys) target answer) b one.4) in
    let count : length all.0 ≡ length items = sym (length-map all.0 (λ (x : Item). x.octets)) ∙ ap length all.2.octets_are in
    let within : target < length all.0 = omega arith in
    inventory_answers (graph_of_items r all.0 all.1) (usable_is_certificate r all.0 all.1) inventory target answer all.4 within there
