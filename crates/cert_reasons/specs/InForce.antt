-- The lists of an issuer that are in force, with the serial numbers of their entries.
use Rattle.std.specs.Prelude.{◌↔◌, ℕ, List, Contains}
use Rattle.jiff_core.specs.declared.civil.datetime.DateTime.{DateTime}
use Rattle.cert_judge.specs.declared.items.ReadItem.{ReadItem}
use Rattle.cert_reasons.specs.declared.in_force.ListsInForce.{ListsInForce}
use Rattle.cert_reasons.specs.Listed.{ArePlaces, IsInForceAt, HasSerialAt}
use Rattle.cert_reasons.specs.Rows.{HasRow}

-- exactly the lists of this issuer among the items that are in force at a moment, and a row for each serial number that one of them has
pub record AreListsInForce (xs : List ReadItem) (moment : DateTime) (name : List ℕ) (l : ListsInForce) : Type 0 where
  pub places : ArePlaces (IsInForceAt xs moment name) l.places.items
  pub rows : (serial : List ℕ) (p : ℕ) → HasRow l.rows serial p ↔ (Contains l.places.items p × HasSerialAt xs serial p)
