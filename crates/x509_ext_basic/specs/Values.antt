-- What the values of this crate's types stand for.
use Rattle.std.specs.Prelude.{ℕ, Bool, Option}

-- BasicConstraints (RFC 5280, 4.2.1.9)
pub record BasicConstraints : Type 0 where
  pub ca : Bool
  pub path_len_constraint : Option ℕ
