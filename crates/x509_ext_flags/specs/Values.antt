-- What the values of this crate's types stand for. Octets are octets, flags are numbers.
use Rattle.std.specs.Prelude.{ℕ, Option}

-- PolicyConstraints (RFC 5280, 4.2.1.11)
pub record PolicyConstraints : Type 0 where
  pub require_explicit_policy : Option ℕ
  pub inhibit_policy_mapping : Option ℕ
