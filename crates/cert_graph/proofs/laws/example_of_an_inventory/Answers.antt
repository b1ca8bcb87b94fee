use Rattle.cert_graph.proofs.ExampleInventory.{inventory_of_four}
use Rattle.cert_graph.proofs.laws.example_of_an_inventory.Goals as goal

pub returns : goal.returns
returns c = inventory_of_four
