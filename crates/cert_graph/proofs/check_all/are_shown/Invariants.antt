use Rattle.std.proofs.Common.{◌≡◌, ℕ, ◌<◌, List, length}
use Rattle.std.specs.List.{HoldsAt}
use Rattle.cert_graph.specs.declared.reach.Reach.{Reach}
use Rattle.cert_graph.specs.Inventory.{IsAdequateVerdict, StandsAtLast}
use Rattle.cert_graph.specs.Lookup.{IsLookup}
use Rattle.cert_graph.specs.Nodes.{graph_of}
use Rattle.cert_graph.specs.Tables.{IsTable}
use Rattle.cert_graph.proofs.check_all.are_shown.Given as goal

abbrev pub invariant-loop-target : goal.invariant-loop-target
invariant-loop-target l = (rows : List (List Reach)) → IsLookup l.nodes rows l.lookup → IsTable (graph_of l.nodes) rows → StandsAtLast (graph_of l.nodes) rows → length rows ≡ l.count
    → (t : ℕ) → t < l.target → HoldsAt (IsAdequateVerdict (graph_of l.nodes) rows t) l.verdicts t
