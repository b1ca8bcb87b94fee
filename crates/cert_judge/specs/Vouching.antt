-- What a caller vouches for, and which extensions it processes itself.
use Rattle.std.specs.Prelude.{◌⊎◌, ℕ, List}

pub record Vouching : Type 1 where
  -- a key vouches for an item: the octets of a key element and of a whole item
  pub Vouches : List ℕ → List ℕ → Type 0
  -- the caller processes an item's extensions under an identifier (RFC 5280, 6.1.4, o; 6.1.5, f)
  pub Processes : List ℕ → List ℕ → Type 0

abbrev pub nothing : List ℕ → List ℕ → Type 0
nothing item identifier = ⊥

-- keys vouch for items, and the caller processes no extension
abbrev pub vouching_alone : (List ℕ → List ℕ → Type 0) → Vouching
vouching_alone V = record { Vouches = V; Processes = nothing }

-- the caller processes these extensions too
abbrev pub processing_too : (List ℕ → List ℕ → Type 0) → Vouching → Vouching
processing_too Q v = record { Vouches = v.Vouches; Processes = λ item identifier. v.Processes item identifier ⊎ Q item identifier }
