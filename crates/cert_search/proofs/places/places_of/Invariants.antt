use Rattle.std.proofs.Common.{◌≡◌, length}
use Rattle.cert_search.proofs.Placing.{PlacesBelow, lists_of}
use Rattle.cert_search.proofs.places.places_of.Given as goal

abbrev pub invariant-loop-place : goal.invariant-loop-place
invariant-loop-place l = record {
  whole : length l.places.items ≡ length l.nodes.items.items;
  below : PlacesBelow l.nodes l.place (lists_of l.places.items);
}
