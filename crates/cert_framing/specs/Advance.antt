-- What one walk over fresh octets finds.
use Rattle.std.specs.Prelude.{◌≡◌, ℕ, ◌≤◌, Bool, true, false, length, drop, List, ◌++◌}
use Rattle.std.specs.List.{AllByRecursion}
use Rattle.cert_framing.specs.Framing.{IsItem, IsCutShort}
use Rattle.cert_framing.specs.Fronts.{MeetsNoItem}
use Rattle.cert_framing.specs.Pieces.{pieces, RunsTo}

-- what is left begins an item, or never will
abbrev pub StopsAs : ℕ → List ℕ → Bool → Type 0
StopsAs limit rest true = IsCutShort limit rest
StopsAs limit rest false = MeetsNoItem limit rest

-- the octets from `from` to `at` are items, whose ends were added after the ends that were there
pub record Walks (limit : ℕ) (octets : List ℕ) (from : ℕ) (ends ends' : List ℕ) (at : ℕ) : Type 0 where
  pub added : List ℕ
  pub joined : ends' ≡ ends ++ added
  pub runs : RunsTo from added at
  pub within : at ≤ length octets
  pub items : AllByRecursion (IsItem limit) (pieces from added octets)

-- and no further item begins at `at`
pub record Advances (limit : ℕ) (octets : List ℕ) (from : ℕ) (ends ends' : List ℕ) (at : ℕ) (goes_on : Bool) : Type 0 where
  pub walks : Walks limit octets from ends ends' at
  pub stops : StopsAs limit (drop at octets) goes_on
