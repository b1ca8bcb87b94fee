-- Octets that are written out are octets.
use Rattle.std.specs.Prelude.{◌&&◌}
use Rattle.std.proofs.Common.{◌≡◌, ℕ, Bool, true, false, nat_lt, List, [], ◌∷◌, refl}
use Rattle.std.specs.Int.Digits.{AllBelowBase}
use Rattle.std.specs.List.{list_all}
use Rattle.std.proofs.lemmas.Bool.{ltb-true}

two_true : (a b : Bool) → (a && b) ≡ true → (a ≡ true) × (b ≡ true)
two_true true b is = (refl, is)
two_true false b is = cc

pub below_tested : (s : List ℕ) → list_all (λ d. nat_lt d 256) s ≡ true → AllBelowBase 256 s
below_tested [] is = tt
below_tested (x ∷ s) is = let both = two_true (nat_lt x 256) (list_all (λ d. nat_lt d 256) s) is in (ltb-true x 256 both.0, below_tested s both.1)
