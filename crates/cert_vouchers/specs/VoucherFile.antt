-- What is in a voucher file: lines, each empty or with a key's digest and an item's, in hex. This
-- page is to be believed.
use Rattle.std.specs.Prelude.{◌≡◌, ◌≢◌, ℕ, ◌+◌, ◌==◌, if◌then◌else◌, List, [], ◌∷◌, ◌++◌, length, map, All, Ok, ◌⊎◌}
use Rattle.std.specs.List.{flat_map, AllByRecursion}
use Rattle.hex.specs.Hex.{decode_sized}

-- LF, CR and the space
abbrev pub line_feed : ℕ
line_feed = 10

abbrev pub carriage_return : ℕ
carriage_return = 13

abbrev pub space : ℕ
space = 32

-- no LF is among the octets
abbrev pub HasNoLineFeed : List ℕ → Type 0
HasNoLineFeed octets = All (λ octet. octet ≢ line_feed) octets

-- the text is these lines, each ended by LF, and after them one that nothing ends
pub record AreLines (text : List ℕ) (ended : List (List ℕ)) (last : List ℕ) : Type 0 where
  pub whole : text ≡ flat_map (λ line. line ++ line_feed ∷ []) ended ++ last
  pub each : AllByRecursion HasNoLineFeed ended
  pub behind : HasNoLineFeed last

-- without one CR at its end
abbrev pub without_return : List ℕ → List ℕ
without_return [] = []
without_return (octet ∷ []) = if octet == carriage_return then [] else octet ∷ []
without_return (octet ∷ next ∷ octets) = octet ∷ without_return (next ∷ octets)

-- the lines as they count: a CR right before an LF doesn't
abbrev pub lines_of : List (List ℕ) → List ℕ → List (List ℕ)
lines_of ended last = map without_return ended ++ last ∷ []

-- a line that holds a pair: 64 hex digits in either case of letters, a space, and 64 hex digits
pub record TellsPair (line key item : List ℕ) : Type 0 where
  pub first : List ℕ
  pub second : List ℕ
  pub line_is : line ≡ first ++ space ∷ second
  pub key_is : decode_sized first 32 ≡ Ok key
  pub item_is : decode_sized second 32 ≡ Ok item

-- a line that may be in a voucher file
abbrev pub IsWell : List ℕ → Type 0
IsWell line = (line ≡ []) ⊎ ((key item : List ℕ) × TellsPair line key item)

-- one of the lines holds a pair
abbrev pub TellPair : List (List ℕ) → List ℕ → List ℕ → Type 0
TellPair [] key item = ⊥
TellPair (line ∷ lines) key item = TellsPair line key item ⊎ TellPair lines key item

-- the first line that may not be there, counted from 1
pub record IsFirstBad (lines : List (List ℕ)) (number : ℕ) : Type 0 where
  pub before : List (List ℕ)
  pub line : List ℕ
  pub after : List (List ℕ)
  pub lines_are : lines ≡ before ++ line ∷ after
  pub well : AllByRecursion IsWell before
  pub bad : ¬ IsWell line
  pub counted : number ≡ length before + 1
