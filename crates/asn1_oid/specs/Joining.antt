-- How the text is written: pieces one by one, a separator before each but the first.
use Rattle.std.specs.Prelude.{ℕ, Bool, true, List, [], ◌∷◌, ◌++◌, if◌then◌else◌}

-- the separator, if something comes before
abbrev pub separator_text : Bool → ℕ → List ℕ
separator_text begun separator = if begun then separator ∷ [] else []

-- the pieces that are left
abbrev pub joined_after : Bool → ℕ → List (List ℕ) → List ℕ
joined_after begun separator [] = []
joined_after begun separator (piece ∷ pieces) =
    separator_text begun separator ++ (piece ++ joined_after true separator pieces)
