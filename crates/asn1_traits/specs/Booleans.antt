-- Booleans: one content octet, 0 for false and any other for true (X.690, 8.2); in DER true is ff
-- (X.690, 11.1).
use Rattle.std.specs.Prelude.{◌≡◌, ◌⊎◌, ◌==◌, ℕ, Bool, not, if◌then◌else◌, List, [], ◌∷◌}

pub record BooleanMeans (content : List ℕ) (v : Bool) : Type 0 where
  pub octet : ℕ
  pub whole : content ≡ octet ∷ []
  pub value : v ≡ not (octet == 0)

abbrev pub IsStrictBoolean : List ℕ → Type 0
IsStrictBoolean content = (content ≡ 0 ∷ []) ⊎ (content ≡ 255 ∷ [])

abbrev pub boolean_octets : Bool → List ℕ
boolean_octets v = (if v then 255 else 0) ∷ []
