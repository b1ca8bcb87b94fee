-- The front of some octets: an item, the beginning of one, or neither.
use Rattle.std.specs.Prelude.{◌≡◌, ℕ, ◌<◌, ◌≤◌, Option, Some, None, length, take, List, ◌++◌}
use Rattle.std.specs.Int.Digits.{digits_of}
use Rattle.cert_framing.specs.declared.front.Front.{Front}
use Rattle.cert_framing.specs.declared.front.Front.TheVariants.{Whole, Part, Nothing}
use Rattle.cert_framing.specs.Framing.{IsItem, IsCutShort}

-- neither an item begins the octets, nor do they begin an item
abbrev pub MeetsNoItem : ℕ → List ℕ → Type 0
MeetsNoItem limit octets = (item more after : List ℕ) → IsItem limit item → octets ++ more ≡ item ++ after → ⊥

abbrev pub StandsAtFront : ℕ → List ℕ → Front → Type 0
StandsAtFront limit octets (Whole n) = (0 < n) × (n ≤ length octets) × IsItem limit (take n octets)
StandsAtFront limit octets Part = IsCutShort limit octets
StandsAtFront limit octets Nothing = MeetsNoItem limit octets

-- n is written in the long form, in so many octets of which these are the first (X.690, 8.1.3.5 and
-- 10.1)
pub record IsLongLength (known : List ℕ) (count n : ℕ) : Type 0 where
  pub more : List ℕ
  pub large : 128 ≤ n
  pub spelled : digits_of 256 n ≡ known ++ more
  pub full : length (known ++ more) ≡ count

-- the least such number
abbrev pub IsLeastLength : List ℕ → ℕ → Option ℕ → Type 0
IsLeastLength known count None = (n : ℕ) → IsLongLength known count n → ⊥
IsLeastLength known count (Some least) =
    IsLongLength known count least × ((n : ℕ) → IsLongLength known count n → least ≤ n)
