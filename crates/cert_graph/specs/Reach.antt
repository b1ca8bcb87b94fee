-- What a reach takes, and the order on reaches.
use Rattle.std.specs.Prelude.{ℕ, zero, suc, ◌≤◌, min, Option, Some, None}
use Rattle.cert_graph.specs.declared.reach.Reach.{Reach}
use Rattle.cert_graph.specs.declared.reach.Reach.TheVariants.{No, UpTo, Any}

-- a reach takes a count: a certificate that reaches so far may be above so many
abbrev pub Takes : Reach → ℕ → Type 0
Takes No c = ⊥
Takes (UpTo n) c = c ≤ n
Takes Any c = Unit {0}

-- No, UpTo 0, UpTo 1, .., Any in this order
abbrev pub IsAtMost : Reach → Reach → Type 0
IsAtMost No s = Unit {0}
IsAtMost (UpTo m) No = ⊥
IsAtMost (UpTo m) (UpTo n) = m ≤ n
IsAtMost (UpTo m) Any = Unit {0}
IsAtMost Any No = ⊥
IsAtMost Any (UpTo n) = ⊥
IsAtMost Any Any = Unit {0}

-- the lower of two reaches
abbrev pub lesser : Reach → Reach → Reach
lesser No s = No
lesser (UpTo m) No = No
lesser (UpTo m) (UpTo n) = UpTo (min m n)
lesser (UpTo m) Any = UpTo m
lesser Any s = s

-- what is left after one more count
abbrev pub less_one : Reach → Reach
less_one No = No
less_one (UpTo zero) = No
less_one (UpTo (suc n)) = UpTo n
less_one Any = Any

-- what a path length constraint lets through (RFC 5280, 4.2.1.9): with none, any count
abbrev pub reach_of : Option ℕ → Reach
reach_of None = Any
reach_of (Some n) = UpTo n
