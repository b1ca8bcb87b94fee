-- What a comparison holds.
use Rattle.std.specs.Prelude.{ℕ, Bool, if◌then◌else◌, List, [], ◌∷◌, ◌++◌, length, take}

-- so many of the octets, and one other octet where one was written
abbrev pub met : List ℕ → ℕ → Bool → ℕ → List ℕ
met whole at differs other = take at whole ++ (if differs then other ∷ [] else [])

-- after the octets that it compares with, which writing doesn't change, and their number
abbrev pub held : List ℕ → ℕ → Bool → ℕ → List ℕ
held whole at differs other = length whole ∷ (whole ++ met whole at differs other)
