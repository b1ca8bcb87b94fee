use Rattle.std.proofs.Common.{◌≡◌, ◌+◌, ◌-◌, ◌*◌, ◌<◌, length, replicate}
use Rattle.std.specs.Prelude.{IfSome, max}
use Rattle.cert_graph.specs.declared.reach.Reach.TheVariants.{No}
use Rattle.cert_graph.specs.Nodes.{graph_of}
use Rattle.cert_graph.specs.Adequate.{rows_by}
use Rattle.cert_graph.specs.Changes.{last_by}
use Rattle.cert_graph.proofs.Changing.{items_by}
use Rattle.cert_search.specs.Rising.{IsRising, ArePlaces}
use Rattle.cert_search.proofs.AllRows.{Raised}
use Rattle.cert_search.proofs.Exactness.{OffersExactly}
use Rattle.cert_search.proofs.Placing.{lists_of}
use Rattle.cert_search.proofs.Ranking.{rank, bound_of}
use Rattle.cert_search.proofs.all_rows.all_rows.Given as goal

abbrev pub invariant-round : goal.invariant-round
invariant-round l = record {
  places : IfSome l.places (λ known. ArePlaces l.nodes (lists_of known.items));
  rising : IsRising l.nodes l.search;
  last : l.search.row.items ≡ last_by (replicate (length l.nodes.items.items) No) (items_by l.steps.items);
  exact : OffersExactly (graph_of l.nodes) (length l.steps.items) l.search.offers.items;
  raised : Raised (graph_of l.nodes) (rows_by (replicate (length l.nodes.items.items) No) (items_by l.steps.items));
  few : length l.steps.items < max 1 (length l.nodes.items.items);
}

abbrev pub decreases-round : goal.decreases-round
decreases-round l = length l.search.offers.items * (bound_of l.nodes + 1) - rank (bound_of l.nodes) l.search.offers.items
