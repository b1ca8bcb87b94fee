-- Lists of positions, one list for each group, filled in ascending order.
use Rattle.std.specs.Prelude.{◌≡◌, ℕ, ◌-◌, ◌<◌, List, [], ◌∷◌, ◌++◌, length, All, Contains, slice_index, slice_index_or, slice_set, ◌⊎◌, ◌↔◌}
use Rattle.std.specs.List.Sorted.{IsStrictlyIncreasing}

-- a list ends in a position
abbrev pub HasLast : List ℕ → ℕ → Type 0
HasLast xs v = (0 < length xs) × (slice_index xs (length xs - 1) ≡ v)

-- a position is added at the end of one of the lists, unless it is there or there is no such list
unfoldable pub IsPut : List (List ℕ) → List (List ℕ) → ℕ → ℕ → Type 0
IsPut old new k v =
    ((new ≡ old) × (k < length old → HasLast (slice_index_or old k []) v))
    ⊎ ((k < length old) × (HasLast (slice_index_or old k []) v → ⊥) × (new ≡ slice_set old k (slice_index_or old k [] ++ v ∷ [])))

-- A list of exactly the positions below a bound that have a property.
pub record IsFill (P : ℕ → Type 0) (bound : ℕ) (xs : List ℕ) : Type 0 where
  pub ascends : IsStrictlyIncreasing xs
  pub within : All (λ v. v < bound) xs
  pub exact : (v : ℕ) → v < bound → Contains xs v ↔ P v

-- A number of lists, each of the positions below a bound that have to do with it.
pub record AreFilled (R : ℕ → ℕ → Type 0) (number bound : ℕ) (lists : List (List ℕ)) : Type 0 where
  pub count : length lists ≡ number
  pub each : (k : ℕ) → k < number → IsFill (λ v. R v k) bound (slice_index_or lists k [])

-- the groups named so far: by the entries before v, and some of those that v names
abbrev pub NamedSoFar : (ℕ → ℕ → Type 0) → ℕ → List ℕ → ℕ → ℕ → Type 0
NamedSoFar R v named u k = ((u < v) × R u k) ⊎ ((u ≡ v) × Contains named k)
