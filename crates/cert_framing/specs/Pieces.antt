-- Octets cut at ascending places.
use Rattle.std.specs.Prelude.{◌≡◌, ℕ, zero, suc, ◌≤◌, ◌-◌, take, drop, List, [], ◌∷◌}

-- the parts of the octets between one place and the next, the first of which begins at `from`
abbrev pub pieces : ℕ → List ℕ → List ℕ → List (List ℕ)
pieces from [] octets = []
pieces from (end ∷ ends) octets = take (end - from) (drop from octets) ∷ pieces end ends octets

-- the places ascend from `from`, and the last is `at`
abbrev pub RunsTo : ℕ → List ℕ → ℕ → Type 0
RunsTo from [] at = from ≡ at
RunsTo from (end ∷ ends) at = (from ≤ end) × RunsTo end ends at

-- where part k begins
abbrev pub start_at : ℕ → List ℕ → ℕ → ℕ
start_at from [] k = from
start_at from (end ∷ ends) zero = from
start_at from (end ∷ ends) (suc k) = start_at end ends k
