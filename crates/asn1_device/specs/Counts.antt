-- What one call adds to the counts of a device, and what a failed write leaves.
use Rattle.std.specs.Prelude.{◌≡◌, ℕ, ◌==◌, ◌&&◌, not, if◌then◌else◌, List, ◌++◌, length, Option, Result, Ok, Err}
use Rattle.std.specs.Io.KnownBytes.{Appends}

-- a call that returns an error is a failure
abbrev pub faults_of : {A E : Type 0} → Result A E → ℕ
faults_of (Ok x) = 0
faults_of (Err e) = 1

-- a call moved no octet, though it was given some octets or room for some
abbrev pub idle_of : {E : Type 0} → List ℕ → Result ℕ E → ℕ
idle_of octets (Ok n) = if (n == 0) && not (length octets == 0) then 1 else 0
idle_of octets (Err e) = 0

-- a write that returns an error is a failure, and so is one that takes 0 of some octets
abbrev pub write_faults_of : {E : Type 0} → List ℕ → Result ℕ E → ℕ
write_faults_of octets (Ok n) = if (n == 0) && not (length octets == 0) then 1 else 0
write_faults_of octets (Err e) = 1

-- some octets at the front of these were appended, and no others
pub record AppendsFront (old new : Option (List ℕ)) (octets : List ℕ) : Type 0 where
  pub front : List ℕ
  pub left : List ℕ
  pub parts : octets ≡ front ++ left
  pub wrote : Appends old new front
