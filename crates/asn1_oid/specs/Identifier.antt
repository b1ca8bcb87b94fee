-- Object identifiers (X.690, 8.19): the components, their subidentifiers, and the content octets.
-- `digits_of b n` of the standard library are the fewest digits of n in base b, the highest first,
-- and none for 0.
use Rattle.std.specs.Prelude.{◌≡◌, ◌≢◌, ℕ, ◌+◌, ◌-◌, ◌*◌, ◌^◌, ◌<◌, ◌≤◌, ◌==◌, if◌then◌else◌, List, [], ◌∷◌, ◌++◌, length, slice_index}
use Rattle.std.specs.Int.Digits.{digits_of, AllBelowBase}
use Rattle.asn1_core.specs.Digits.{continued}

-- the fewest digits of the base 128, one at least
abbrev pub shortest_digits : ℕ → List ℕ
shortest_digits n = if n == 0 then 0 ∷ [] else digits_of 128 n

-- a subidentifier in the fewest octets of seven bits, bit 8 set in all but the last (X.690, 8.19.2)
unfoldable pub subidentifier_octets : ℕ → List ℕ
subidentifier_octets n = continued (shortest_digits n)

-- the encodings of the subidentifiers, one after the other (X.690, 8.19.1)
abbrev pub content_octets : List ℕ → List ℕ
content_octets [] = []
content_octets (n ∷ ns) = subidentifier_octets n ++ content_octets ns

-- the content of a strict object identifier: one subidentifier or more
pub record IsOidContent (octets : List ℕ) : Type 0 where
  pub subidentifiers : List ℕ
  pub some : subidentifiers ≢ []
  pub spelled : octets ≡ content_octets subidentifiers

-- a strict content, octet by octet: there is an octet, the last ends a subidentifier, and 80 begins
-- none (X.690, 8.19.2)
pub record IsContentByOctets (octets : List ℕ) : Type 0 where
  pub some : 0 < length octets
  pub ends : slice_index octets (length octets - 1) < 128
  pub begins : (k : ℕ) → k < length octets → slice_index octets k ≡ 128 → (0 < k) × (128 ≤ slice_index octets (k - 1))

-- two components or more; the first is 0, 1 or 2, and the second is below 40 under 0 and 1
-- (X.690, 8.19.4)
abbrev pub AreComponents : List ℕ → Type 0
AreComponents (x ∷ y ∷ more) = (x ≤ 2) × (x < 2 → y < 40)
AreComponents _ = ⊥

-- the first two components make one subidentifier (X.690, 8.19.4), each other one is its own
-- (X.690, 8.19.5)
abbrev pub subidentifiers_of : List ℕ → List ℕ
subidentifiers_of (x ∷ y ∷ more) = (40 * x + y) ∷ more
subidentifiers_of _ = []

-- components whose subidentifiers fit 64 bits each
pub record CanBeSpelled (components : List ℕ) : Type 0 where
  pub are_components : AreComponents components
  pub small : AllBelowBase (2 ^ 64) (subidentifiers_of components)

-- the octets spell these components: no more of them than a slice holds, with subidentifiers of 64
-- bits
pub record Spells (components octets : List ℕ) : Type 0 where
  pub can : CanBeSpelled components
  pub counted : length components < 2 ^ 64
  pub spelled : octets ≡ content_octets (subidentifiers_of components)

-- a list that begins with the front
pub record IsFront (front whole : List ℕ) : Type 0 where
  pub rest : List ℕ
  pub whole_is : whole ≡ front ++ rest
