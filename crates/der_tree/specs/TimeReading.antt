-- Times read step by step. The meaning is defined in `Time`; `proofs/Times` shows that these undo
-- it.
use Rattle.std.specs.Prelude.{◌≡◌, ℕ, ◌+◌, ◌-◌, ◌*◌, ◌<◌, ◌==◌, ◌&&◌, not, nat_le, Bool, true, false, if◌then◌else◌, Option, Some, None, option_and_then, List, [], ◌∷◌, ◌++◌, IsTrue}
use Rattle.std.specs.List.{list_all}
use Rattle.std.specs.Char.{is_ascii_digit}
use Rattle.der_tree.specs.Time.{Moment, ends_in_zero}
use Rattle.der_tree.specs.declared.times.Clock.{Clock}

infixl 10 ◌>>=◌
abbrev pub ◌>>=◌ : {A B : Type 0} → Option A → (A → Option B) → Option B
o >>= f = option_and_then f o

-- two digits at the front
unfoldable pub pair_at : List ℕ → Option (ℕ × List ℕ)
pair_at [] = None
pair_at (a ∷ []) = None
pair_at (a ∷ b ∷ rest) = if is_ascii_digit a && is_ascii_digit b then Some ((a - 48) * 10 + (b - 48), rest) else None

-- MMDDHHMMSS at the front
unfoldable pub moment_at : ℕ → List ℕ → Option (Moment × List ℕ)
moment_at year i = do
  month ← pair_at i
  day ← pair_at month.1
  hour ← pair_at day.1
  minute ← pair_at hour.1
  second ← pair_at minute.1
  Some (record { year = year; month = month.0; day = day.0; hour = hour.0; minute = minute.0; second = second.0 }, second.1)

abbrev pub year_of : ℕ → ℕ
year_of yy = if nat_le 50 yy then 1900 + yy else 2000 + yy

unfoldable pub utc_at : List ℕ → Option (Moment × List ℕ)
utc_at i = do
  year ← pair_at i
  moment_at (year_of year.0) year.1

unfoldable pub generalized_at : List ℕ → Option (Moment × List ℕ)
generalized_at i = do
  century ← pair_at i
  year ← pair_at century.1
  moment_at (century.0 * 100 + year.0) year.1

-- nothing, or a point and digits whose last isn't 0
abbrev pub is_fraction : List ℕ → Bool
is_fraction [] = true
is_fraction (c ∷ []) = false
is_fraction (c ∷ d ∷ ds) = c == 46 && list_all is_ascii_digit (d ∷ ds) && not (ends_in_zero (d ∷ ds))

-- Z, after a fraction or nothing
abbrev pub EndsTime : List ℕ → Type 0
EndsTime s = (front : List ℕ) × IsTrue (is_fraction front) × (s ≡ front ++ 90 ∷ [])

-- a `Clock` is a moment
abbrev pub moment_of : Clock → Moment
moment_of c = record { year = c.year; month = c.month; day = c.day; hour = c.hour; minute = c.minute; second = c.second }

-- parts that digits can write
pub record IsWritable (m : Moment) : Type 0 where
  pub year : m.year < 10000
  pub month : m.month < 100
  pub day : m.day < 100
  pub hour : m.hour < 100
  pub minute : m.minute < 100
  pub second : m.second < 100
