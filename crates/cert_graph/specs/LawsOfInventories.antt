-- Laws of inventories over nodes.
use Rattle.std.specs.Prelude.{◌≡◌, ℕ, ◌<◌, length, ◌↔◌}
use Rattle.cert_graph.specs.declared.nodes.Nodes.{Nodes}
use Rattle.cert_graph.specs.declared.answer.Answer.{Answer}
use Rattle.cert_graph.specs.declared.answer.Answer.TheVariants.{Path, NoPath, NoTarget}
use Rattle.cert_graph.specs.declared.inventory.Verdict.{Verdict}
use Rattle.cert_graph.specs.declared.inventory.Verdict.TheVariants.{FirstPath, Pathless, NoCertificate}
use Rattle.cert_graph.specs.declared.inventory.Inventory.{Inventory}
use Rattle.cert_graph.specs.Adequate.{IsTrueAnswer}
use Rattle.cert_graph.specs.Inventory.{IsAdequateInventory, IsTrueInventory, OfEach}
use Rattle.cert_graph.specs.Laws.{Agrees}
use Rattle.cert_graph.specs.Nodes.{graph_of}
use Rattle.std.specs.List.{HoldsAt}

-- an adequate inventory is true
abbrev pub LawAdequateInventoryIsTrue : Type 0
LawAdequateInventoryIsTrue = (nodes : Nodes) (inventory : Inventory) → IsAdequateInventory (graph_of nodes) inventory → IsTrueInventory (graph_of nodes) inventory

-- nodes that agree on each position have equal adequate inventories
abbrev pub LawAgreeingInventories : Type 0
LawAgreeingInventories = (nodes other : Nodes) → Agrees (graph_of nodes) (graph_of other) → (inventory : Inventory) → IsAdequateInventory (graph_of nodes) inventory ↔ IsAdequateInventory (graph_of other) inventory

-- two verdicts name one path and anchor, or both that there is none, or both that the item is no
-- certificate
abbrev pub AreOneVerdict : Verdict → Verdict → Type 0
AreOneVerdict (FirstPath ps a) (FirstPath qs b) = (ps.items ≡ qs.items) × (a ≡ b)
AreOneVerdict (FirstPath ps a) Pathless = ⊥
AreOneVerdict (FirstPath ps a) NoCertificate = ⊥
AreOneVerdict Pathless (FirstPath qs b) = ⊥
AreOneVerdict Pathless Pathless = Unit {0}
AreOneVerdict Pathless NoCertificate = ⊥
AreOneVerdict NoCertificate (FirstPath qs b) = ⊥
AreOneVerdict NoCertificate Pathless = ⊥
AreOneVerdict NoCertificate NoCertificate = Unit {0}

-- two inventories have as many verdicts, and agree at each position
pub record SayTheSameOfAll (inventory other : Inventory) : Type 0 where
  pub count : length inventory.verdicts.items ≡ length other.verdicts.items
  pub each : OfEach (λ target verdict. HoldsAt (AreOneVerdict verdict) other.verdicts.items target) inventory.verdicts.items

-- two true inventories of equal nodes agree
abbrev pub LawOneTrueInventory : Type 0
LawOneTrueInventory = (nodes : Nodes) (inventory other : Inventory) → IsTrueInventory (graph_of nodes) inventory → IsTrueInventory (graph_of nodes) other → SayTheSameOfAll inventory other

-- a verdict says what an answer says
abbrev pub IsVerdictOf : Answer → Verdict → Type 0
IsVerdictOf (Path ps a table) (FirstPath qs b) = (ps.items ≡ qs.items) × (a ≡ b)
IsVerdictOf (Path ps a table) Pathless = ⊥
IsVerdictOf (Path ps a table) NoCertificate = ⊥
IsVerdictOf (NoPath table) (FirstPath qs b) = ⊥
IsVerdictOf (NoPath table) Pathless = Unit {0}
IsVerdictOf (NoPath table) NoCertificate = ⊥
IsVerdictOf NoTarget (FirstPath qs b) = ⊥
IsVerdictOf NoTarget Pathless = ⊥
IsVerdictOf NoTarget NoCertificate = Unit {0}

-- what a true inventory says of an item is what each true answer on it says
abbrev pub LawInventoryAnswers : Type 0
LawInventoryAnswers = (nodes : Nodes) (inventory : Inventory) (target : ℕ) (answer : Answer) → IsTrueInventory (graph_of nodes) inventory → target < length nodes.items.items
    → IsTrueAnswer (graph_of nodes) target answer → HoldsAt (IsVerdictOf answer) inventory.verdicts.items target
