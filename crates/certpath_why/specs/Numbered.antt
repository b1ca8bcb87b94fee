-- Buckets by their texts. Contracts of private functions cite it.
use Rattle.std.specs.Borrow.{Bor}
use Rattle.std.specs.Prelude.{◌≡◌, ◌<◌, ℕ, List, Some, None, slice_index_or}
use Rattle.cert_graph.specs.declared.buckets.Bucket.{Bucket}
use Rattle.cert_graph.specs.declared.texts.TextNumbers.{TextNumbers}
use Rattle.cert_graph.specs.Texts.{number_of}

-- a bucket of the first k is under each of their texts, and nothing else
pub record AreNumbered (bs : List Bucket) (k : ℕ) (numbers : TextNumbers) : Type 0 where
  pub known : (q : Bor (List ℕ)) (n : ℕ) → number_of numbers q ≡ Some n → (n < k) × ((b : Bucket) → (slice_index_or bs n b).text.now ≡ q.now)
  pub met : (i : ℕ) (q : Bor (List ℕ)) (b : Bucket) → i < k → (slice_index_or bs i b).text.now ≡ q.now → number_of numbers q ≡ None → ⊥
