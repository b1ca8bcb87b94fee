-- Worked examples.
use Rattle.std.specs.Prelude.{ℕ, List, [], ◌∷◌}

-- a.b
abbrev pub a_b : List ℕ
a_b = 97 ∷ 46 ∷ 98 ∷ []

-- w.A.b
abbrev pub w_a_b : List ℕ
w_a_b = 119 ∷ 46 ∷ 65 ∷ 46 ∷ 98 ∷ []

-- *.a.b
abbrev pub star_a_b : List ℕ
star_a_b = 42 ∷ 46 ∷ a_b

-- *.b
abbrev pub star_b : List ℕ
star_b = 42 ∷ 46 ∷ 98 ∷ []
