-- The order of civil dates and times.
use Rattle.std.specs.Prelude.{◌≡◌, ℕ, ◌<ℤ◌, List, [], ◌∷◌, ◌⊎◌, IsTrue}
use Rattle.cert_model.specs.Fields.{CivilTime}
use Rattle.cert_model.specs.Range.{is_at_most}

-- what follows the year, from the greatest unit to the least
abbrev pub within_year : CivilTime → List ℕ
within_year t = t.month ∷ t.day ∷ t.hour ∷ t.minute ∷ t.second ∷ t.nanosecond ∷ []

-- not later: the first unit that differs is less, or none differs
abbrev pub IsNotAfter : CivilTime → CivilTime → Type 0
IsNotAfter t u = (t.year <ℤ u.year) ⊎ ((t.year ≡ u.year) × IsTrue (is_at_most (within_year t) (within_year u)))

-- from one moment to another, both ends included (RFC 5280, 4.1.2.5)
pub record IsBetween (first moment last : CivilTime) : Type 0 where
  pub begun : IsNotAfter first moment
  pub lasts : IsNotAfter moment last
