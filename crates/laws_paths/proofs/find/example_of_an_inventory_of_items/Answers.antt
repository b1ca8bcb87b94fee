use Rattle.cert_graph.proofs.Sharing.{inventory_true}
use Rattle.laws_paths.specs.Found.{all_found}
use Rattle.laws_paths.proofs.OfBound.{limited}
use Rattle.laws_paths.proofs.OfFound.{inventory}
use Rattle.laws_paths.proofs.find.example_of_an_inventory_of_items.Goals as goal

pub returns-clause-adequate : goal.returns-clause-adequate
returns-clause-adequate c = inventory c.args.alloc

pub returns-clause-both : goal.returns-clause-both
returns-clause-both c =
    let holds = inventory_true limited (all_found c.args.alloc) (inventory c.args.alloc) in
    (holds, holds)
