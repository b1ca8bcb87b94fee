-- What a call does to a buffer of the caller's.
use Rattle.std.specs.Prelude.{◌≡◌, ◌⊎◌, ◌≤◌, ◌<◌, Bool, true, false, List, ◌++◌, length, drop}

-- the values are at its front, and the rest is as it was; or they don't fit, and nothing was
-- written
abbrev pub Puts : {T : Type 0} → List T → List T → List T → Bool → Type 0
Puts old new values true = (length values ≤ length old) × (new ≡ values ++ drop (length values) old)
Puts old new values false = (length old < length values) × (new ≡ old)

-- both were put into their buffers, or neither, if one of them doesn't fit
abbrev pub PutsBoth : {S T : Type 0} → List S → List S → List S → List T → List T → List T → Bool → Type 0
PutsBoth old new values other_old other_new others true = Puts old new values true × Puts other_old other_new others true
PutsBoth old new values other_old other_new others false =
    ((length old < length values) ⊎ (length other_old < length others)) × (new ≡ old) × (other_new ≡ other_old)
