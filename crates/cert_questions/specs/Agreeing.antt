-- Contexts of judging that agree on each question.
use Rattle.std.specs.Prelude.{◌≡◌, ◌↔◌, ℕ, List, ◌++◌, Some, Contains, slice_get}
use Rattle.cert_graph.specs.declared.answer.Answer.{Answer}
use Rattle.cert_graph.specs.declared.inventory.Inventory.{Inventory}
use Rattle.cert_graph.specs.Graph.{Graph, IsValidPath}
use Rattle.cert_graph.specs.Adequate.{IsAdequate, IsTrueAnswer}
use Rattle.cert_graph.specs.Inventory.{IsAdequateInventory, IsTrueInventory}
use Rattle.cert_model.specs.Fields.{Certificate}
use Rattle.cert_model.specs.Class.{certificate}
use Rattle.cert_judge.specs.Revoking.{Item, JudgingContext}
use Rattle.cert_judge.specs.ItemGraph.{graph_of_items}
use Rattle.cert_questions.specs.Shown.{key_at}
use Rattle.cert_questions.specs.Questions.{IsQuestion}

-- the moment and the demand are equal, of each question both say that the key vouches for the item,
-- or neither, and of each certificate both process equal extensions
pub record AgreeOnQuestions (r s : JudgingContext) (items anchors : List Item) : Type 0 where
  pub moment : r.moment ≡ s.moment
  pub demand : r.demand_lists ≡ s.demand_lists
  pub vouches : (v h : ℕ) (x : Item) (key : List ℕ) → IsQuestion items anchors v h → slice_get items v ≡ Some x → key_at (items ++ anchors) h ≡ Some key
      → r.Vouches key x.octets ↔ s.Vouches key x.octets
  pub processed : (x : Item) (c : Certificate) (identifier : List ℕ) → Contains items x → x.class ≡ certificate c → r.Processes x.octets identifier ↔ s.Processes x.octets identifier

-- two graphs have equal valid paths, equal true answers and equal adequate ones, and equal true
-- and adequate inventories
pub record SayTheSameOfAll (g h : Graph) : Type 0 where
  pub paths : (target : ℕ) (ps : List ℕ) (a : ℕ) → IsValidPath g target ps a ↔ IsValidPath h target ps a
  pub holds : (target : ℕ) (answer : Answer) → IsTrueAnswer g target answer ↔ IsTrueAnswer h target answer
  pub adequate : (target : ℕ) (answer : Answer) → IsAdequate g target answer ↔ IsAdequate h target answer
  pub true_inventories : (inventory : Inventory) → IsTrueInventory g inventory ↔ IsTrueInventory h inventory
  pub adequate_inventories : (inventory : Inventory) → IsAdequateInventory g inventory ↔ IsAdequateInventory h inventory

abbrev pub SayTheSameOf : JudgingContext → JudgingContext → List Item → List Item → Type 0
SayTheSameOf r s items anchors = SayTheSameOfAll (graph_of_items r items anchors) (graph_of_items s items anchors)
