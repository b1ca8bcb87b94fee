-- Contents that are kept as they are.
use Rattle.std.proofs.Common.{◌≡◌, ◌≢◌, refl, List, ℕ, [], ◌∷◌}
use Rattle.asn1_traits.specs.Integers.{IsShortest}

-- one octet or more, held as they are
abbrev pub HoldsSome : List ℕ → List ℕ → Type 0
HoldsSome content held = (content ≢ []) × (held ≡ content)

pub shortest_some : (content : List ℕ) → IsShortest content → content ≢ []
shortest_some [] strict = absurd strict
shortest_some (x ∷ xs) strict = λ e. cc e

pub shortest_fits : (content : List ℕ) → IsShortest content → IsShortest content × HoldsSome content content
shortest_fits content strict = (strict, (shortest_some content strict, refl))
