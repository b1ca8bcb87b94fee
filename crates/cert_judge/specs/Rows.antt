-- Which items a key vouches for, by their places.
use Rattle.std.specs.Borrow.{Bor}
use Rattle.std.specs.Prelude.{◌≡◌, ◌↔◌, ◌<◌, ℕ, List, length, slice_index_or, Contains, Vec}
use Rattle.std.specs.declared.alloc.Global.{Global}
use Rattle.std.specs.List.Sorted.{IsStrictlyIncreasing}
use Rattle.cert_graph.specs.Entries.{IsAt}

-- a key vouches for the item at a place
abbrev pub VouchesAt : (List ℕ → List ℕ → Type 0) → List (Bor (List ℕ)) → List ℕ → ℕ → Type 0
VouchesAt V items key v = IsAt items v (λ o. V key o.now)

-- A row of exactly the chosen places of items that a key vouches for.
pub record IsRow (V : List ℕ → List ℕ → Type 0) (items : List (Bor (List ℕ))) (chosen key row : List ℕ) : Type 0 where
  pub ascends : IsStrictlyIncreasing row
  pub exact : (v : ℕ) → Contains row v ↔ (Contains chosen v × VouchesAt V items key v)

-- a row for each key
pub record AreRows (V : List ℕ → List ℕ → Type 0) (keys items : List (Bor (List ℕ))) (chosen : List ℕ) (rows : List (Vec ℕ Global)) : Type 0 where
  pub count : length rows ≡ length keys
  pub each : (k : ℕ) (row : Vec ℕ Global) (key : Bor (List ℕ)) → k < length keys → IsRow V items chosen (slice_index_or keys k key).now (slice_index_or rows k row).items
