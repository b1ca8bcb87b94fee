-- What `certpath_classes` returns.
use Rattle.std.specs.Prelude.{◌≡◌, ◌⊎◌, ℕ, ℤ, Bool, true, false, List, [], ◌∷◌, length}
use Rattle.cert_framing.specs.declared.ending.End.{End}
use Rattle.cert_framing.specs.Framing.{IsFraming}
use Rattle.certpath_c.specs.Classing.{IsClassed}
use Rattle.certpath_c.specs.Status.{done, out_of_memory, too_small}
use Rattle.certpath_c.specs.Writing.{Puts}

-- one number for each item, that of the class that it has
abbrev pub AreNumbers : List (List ℕ) → List ℕ → Type 0
AreNumbers [] [] = Unit {0}
AreNumbers [] (number ∷ numbers) = ⊥
AreNumbers (item ∷ items) [] = ⊥
AreNumbers (item ∷ items) (number ∷ numbers) = IsClassed item number × AreNumbers items numbers

-- the octets were cut into items, and the numbers of these put into the buffer, or not, if they
-- don't fit
pub record AreAllClassed (octets : List ℕ) (limit : ℕ) (classes classes' : List ℕ) (count' : ℕ) (fits : Bool) : Type 0 where
  pub items : List (List ℕ)
  pub end : End
  pub framing : IsFraming limit octets items end
  pub numbers : List ℕ
  pub are_numbers : AreNumbers items numbers
  pub count_is : count' ≡ length numbers
  pub written : Puts classes classes' numbers fits

abbrev pub ClassesAnswer : List ℕ → ℕ → List ℕ → List ℕ → ℕ → ℕ → ℤ → Type 0
ClassesAnswer octets limit classes classes' count count' status =
    ((status ≡ done) × AreAllClassed octets limit classes classes' count' true)
    ⊎ ((status ≡ too_small) × AreAllClassed octets limit classes classes' count' false)
    ⊎ ((status ≡ out_of_memory) × (classes' ≡ classes) × (count' ≡ count))
