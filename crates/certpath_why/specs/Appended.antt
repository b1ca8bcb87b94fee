-- What was appended to a text. Contracts of private functions cite it.
use Rattle.std.specs.Prelude.{◌≡◌, ◌++◌, ℕ, List}

-- a text with a property was appended
abbrev pub Appends : (List ℕ → Type 0) → List ℕ → List ℕ → Type 0
Appends IsText old new = (text : List ℕ) × (new ≡ old ++ text) × IsText text
