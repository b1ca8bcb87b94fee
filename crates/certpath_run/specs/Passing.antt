-- Octets that pass through a buffer on their way to a writer.
use Rattle.std.specs.Prelude.{◌≡◌, ℕ, List, ◌++◌, Option}
use Rattle.std.specs.Io.KnownBytes.{Appends}

-- of these octets those at the front were appended, and the buffer holds the others
pub record Passes (old new : Option (List ℕ)) (octets held : List ℕ) : Type 0 where
  pub front : List ℕ
  pub parts : octets ≡ front ++ held
  pub wrote : Appends old new front
