-- What a walk looks up in place of going over all groups.
use Rattle.std.specs.Prelude.{List, length, map}
use Rattle.cert_graph.specs.declared.reach.Reach.{Reach}
use Rattle.cert_graph.specs.declared.nodes.Nodes.{Nodes}
use Rattle.cert_graph.specs.declared.lookup.Lookup.{Lookup}
use Rattle.cert_graph.specs.Issuing.{IssuedBy}
use Rattle.cert_graph.specs.Lists.{AreFilled}
use Rattle.cert_graph.specs.Nodes.{graph_of}
use Rattle.cert_graph.specs.Stairs.{AreFlights, OfEachGroup}

-- the groups that issued each item
abbrev pub IsIndex : Nodes → Lookup → Type 0
IsIndex nodes lookup = AreFilled (IssuedBy nodes.groups.items) (length nodes.items.items) (length nodes.groups.items) (map (λ l. l.items) lookup.groups.items)

-- The groups that issued each item, and the flights of each group over some rows.
pub record IsLookup (nodes : Nodes) (rows : List (List Reach)) (lookup : Lookup) : Type 0 where
  pub index : IsIndex nodes lookup
  pub flights : OfEachGroup (AreFlights (graph_of nodes) rows) nodes.groups.items (map (λ f. f.items) lookup.flights.items)
