-- What a bundle holds, and which streams it represents.
use Rattle.std.specs.Prelude.{◌≡◌, ℕ, Bool, true, false, List, [], ◌∷◌, ◌++◌}
use Rattle.cert_framing.specs.declared.ending.End.{End}
use Rattle.cert_framing.specs.Framing.{IsLongest, IsCutShort}

-- what a bundle holds in memory: its items, and the octets that it keeps after them
pub record Held : Type 0 where
  pub limit : ℕ
  pub items : List (List ℕ)
  pub kept : List ℕ
  pub has_fault : Bool
  pub has_failed : Bool

-- the octets after the items are kept while they are a proper prefix of an item; after a fault none
-- is kept
abbrev pub IsKept : ℕ → List ℕ → Bool → List ℕ → Type 0
IsKept limit rest false kept = (kept ≡ rest) × IsCutShort limit rest
IsKept limit rest true kept = (kept ≡ []) × ¬ (IsCutShort limit rest)

-- a bundle that found memory for all that it was fed represents a stream whose items it holds
pub record StandsFor (held : Held) (stream : List ℕ) : Type 0 where
  pub rest : List ℕ
  pub sound : held.has_failed ≡ false
  pub longest : IsLongest held.limit stream held.items rest
  pub is_kept : IsKept held.limit rest held.has_fault held.kept

-- an Ok `feed`: the bundle represents the stream that it represented before, followed by the piece
abbrev pub TakesPiece : Held → List ℕ → Held → Type 0
TakesPiece held piece next =
    (next.limit ≡ held.limit) × ((stream : List ℕ) → StandsFor held stream → StandsFor next (stream ++ piece))

-- one after another
abbrev pub TakesPieces : Held → List (List ℕ) → Held → Type 0
TakesPieces held [] last = held ≡ last
TakesPieces held (piece ∷ pieces) last = (next : Held) × TakesPiece held piece next × TakesPieces next pieces last

-- what a framed stream gives: its items, and how it ends
pub record Framed : Type 0 where
  pub items : List (List ℕ)
  pub end : End
