-- Buckets of places by their names. Contracts of private functions cite it.
use Rattle.std.specs.Prelude.{◌↔◌, ◌<◌, ℕ, List, length, Contains}
use Rattle.cert_graph.specs.declared.buckets.Bucket.{Bucket}
use Rattle.cert_graph.specs.declared.places.Place.{Place}
use Rattle.cert_graph.specs.declared.places.Part.TheVariants.{Name}
use Rattle.cert_graph.specs.Places.{Shows}
use Rattle.cert_graph.specs.Buckets.{AreBuckets}

-- the buckets of all places by their names
pub record IsDirectory (all : List Place) (buckets : List Bucket) : Type 0 where
  pub chosen : List ℕ
  pub chosen_are : (v : ℕ) → Contains chosen v ↔ (v < length all)
  pub buckets_are : AreBuckets (Shows Name all) chosen buckets
