-- Inventories of octets: what they say of the graph of the classed items.
use Rattle.std.specs.Prelude.{ℕ, ◌≤◌, max, List, length, All}
use Rattle.cert_graph.specs.declared.inventory.Inventory.{Inventory}
use Rattle.cert_graph.specs.declared.inventory.Verdict.{Verdict}
use Rattle.cert_graph.specs.declared.inventory.Verdict.TheVariants.{FirstPath, Pathless, NoCertificate}
use Rattle.cert_graph.specs.Entries.{IsAt}
use Rattle.cert_graph.specs.Graph.{Graph}
use Rattle.cert_graph.specs.Inventory.{shared_rows, IsAdequateInventory, IsTrueInventory}
use Rattle.cert_model.specs.Fields.{Certificate}
use Rattle.cert_model.specs.Class.{IsCertificateItem}
use Rattle.cert_search.specs.Inventory.{HasExactTable, IsShortVerdict}

-- an inventory that a search found: adequate, so true; its rows hold exactly how far each issuer
-- leads, its paths are short, and it has no more rows than items if there are items
pub record IsFoundOfAll (g : Graph) (inventory : Inventory) : Type 0 where
  pub adequate : IsAdequateInventory g inventory
  pub holds : IsTrueInventory g inventory
  pub exact : HasExactTable g (shared_rows g inventory)
  pub short : All (IsShortVerdict g) inventory.verdicts.items
  pub bounded : (1 ≤ length inventory.steps.items) × (length inventory.steps.items ≤ max 1 g.items)

-- each position of a path names an item that is a certificate in its one spelling
abbrev pub VerdictNamesCertificates : List (List ℕ) → Verdict → Type 0
VerdictNamesCertificates items (FirstPath ps a) = All (λ p. IsAt items p (λ octets. (c : Certificate) × IsCertificateItem octets c)) ps.items
VerdictNamesCertificates items Pathless = Unit {0}
VerdictNamesCertificates items NoCertificate = Unit {0}
