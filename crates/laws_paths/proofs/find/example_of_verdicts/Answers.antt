use Rattle.std.proofs.Common.{lit<}
use Rattle.cert_graph.specs.Adequate.{IsTrueAnswer}
use Rattle.cert_graph.specs.Inventory.{IsTrueInventory}
use Rattle.cert_graph.proofs.Sharing.{inventory_true}
use Rattle.cert_graph.proofs.True.{adequate_is_true}
use Rattle.laws_paths.specs.Found.{all_found, none_found, path_found}
use Rattle.laws_paths.proofs.OfBound.{limited, none}
use Rattle.laws_paths.proofs.OfFound.{adequate_path, inventory, of_octets}
use Rattle.laws_paths.proofs.find.example_of_verdicts.Goals as goal

pub returns-clause-none : goal.returns-clause-none
returns-clause-none c =
    let alloc = c.args.alloc in (
      lit< tt,
      of_octets (λ g. IsTrueInventory g (all_found alloc)) (inventory_true limited (all_found alloc) (inventory alloc)),
      of_octets (λ g. IsTrueAnswer g 0 (none_found alloc)) (adequate_is_true limited 0 (none_found alloc) (none alloc)),
    )

pub returns-clause-path : goal.returns-clause-path
returns-clause-path c =
    let alloc = c.args.alloc in (
      lit< tt,
      of_octets (λ g. IsTrueInventory g (all_found alloc)) (inventory_true limited (all_found alloc) (inventory alloc)),
      of_octets (λ g. IsTrueAnswer g 1 (path_found alloc)) (adequate_is_true limited 1 (path_found alloc) (adequate_path alloc)),
    )
