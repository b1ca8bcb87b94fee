-- Octets with their classes.
use Rattle.std.specs.Prelude.{◌≡◌, ℕ, List, map, All}
use Rattle.cert_model.specs.Class.{IsClassOf}
use Rattle.cert_judge.specs.Revoking.{Item}

-- the items are these octet strings, in this order, each with its class
pub record AreClassed (octets : List (List ℕ)) (items : List Item) : Type 0 where
  pub octets_are : map (λ (x : Item). x.octets) items ≡ octets
  pub classes : All (λ (x : Item). IsClassOf x.octets x.class) items
