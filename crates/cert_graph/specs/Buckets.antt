-- Places brought together by their texts.
use Rattle.std.specs.Prelude.{◌≡◌, ◌≢◌, ◌↔◌, ◌++◌, ◌∷◌, [], ℕ, List, length, slice_index_or, All, Any, Contains}
use Rattle.std.specs.List.Sorted.{IsStrictlyIncreasing}
use Rattle.cert_graph.specs.declared.buckets.Bucket.{Bucket}

-- A bucket of exactly the chosen places that show its text, in their order.
pub record IsBucket (Shows : ℕ → List ℕ → Type 0) (chosen : List ℕ) (b : Bucket) : Type 0 where
  pub ascends : IsStrictlyIncreasing b.places.items
  pub exact : (v : ℕ) → Contains b.places.items v ↔ (Contains chosen v × Shows v b.text.now)

-- each bucket is one, and each chosen place with a text has its bucket
pub record AreBuckets (Shows : ℕ → List ℕ → Type 0) (chosen : List ℕ) (buckets : List Bucket) : Type 0 where
  pub each : All (IsBucket Shows chosen) buckets
  pub complete : (v : ℕ) (q : List ℕ) → Contains chosen v → Shows v q → Any (λ b. b.text.now ≡ q) buckets

-- one place more at the end of a bucket
pub record IsPushed (old new : List Bucket) (n v : ℕ) : Type 0 where
  pub count : length new ≡ length old
  pub others : (i : ℕ) (b : Bucket) → i ≢ n → slice_index_or new i b ≡ slice_index_or old i b
  pub text : (b : Bucket) → (slice_index_or new n b).text ≡ (slice_index_or old n b).text
  pub places : (b : Bucket) → (slice_index_or new n b).places.items ≡ (slice_index_or old n b).places.items ++ v ∷ []
