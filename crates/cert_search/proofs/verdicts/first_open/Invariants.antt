use Rattle.std.proofs.Common.{◌≡◌, ℕ, ◌<◌, List, length}
use Rattle.cert_graph.specs.declared.nodes.Nodes.{Nodes}
use Rattle.cert_graph.specs.declared.reach.Reach.{Reach}
use Rattle.cert_graph.specs.Lookup.{IsLookup}
use Rattle.cert_graph.specs.Nodes.{graph_of}
use Rattle.cert_search.specs.Inventory.{LeadsAt}
use Rattle.cert_search.proofs.verdicts.first_open.Given as goal

abbrev pub invariant-loop-place : goal.invariant-loop-place
invariant-loop-place l = (nodes : Nodes) (rows : List (List Reach)) → IsLookup nodes rows l.lookup → length rows ≡ l.number → (k : ℕ) → k < l.place → LeadsAt (graph_of nodes) l.target rows k → ⊥
