-- What `certpath_class` returns.
use Rattle.std.specs.Prelude.{◌≡◌, ◌⊎◌, ℕ, ℤ, List}
use Rattle.cert_model.specs.Class.{Class, certificate, list, other, IsClassOf}
use Rattle.certpath_c.specs.Status.{done, out_of_memory}

-- the numbers of the header
abbrev pub class_number : Class → ℕ
class_number other = 0
class_number (certificate c) = 1
class_number (list l) = 2

-- the number is that of the class that the item has
pub record IsClassed (item : List ℕ) (number : ℕ) : Type 0 where
  pub class : Class
  pub is_class : IsClassOf item class
  pub number_is : number ≡ class_number class

abbrev pub ClassAnswer : List ℕ → ℕ → ℕ → ℤ → Type 0
ClassAnswer item number number' status = ((status ≡ done) × IsClassed item number') ⊎ ((status ≡ out_of_memory) × (number' ≡ number))
