use Rattle.cert_graph.specs.Inventory.{IsAdequateInventory}
use Rattle.laws_paths.specs.Found.{all_found}
use Rattle.laws_paths.proofs.OfFound.{checked, inventory}
use Rattle.laws_paths.proofs.find.example_of_a_check_of_all.Goals as goal

pub returns : goal.returns
returns c = checked (λ g. IsAdequateInventory g (all_found c.args.alloc)) (inventory c.args.alloc)
