-- Moments read step by step. The meaning is defined in `Moments`.
use Rattle.std.specs.Prelude.{ℕ, ◌+◌, ◌*◌, ◌==◌, ◌&&◌, Bool, true, false, if◌then◌else◌, Option, Some, None, List, [], ◌∷◌}
use Rattle.der_tree.specs.Time.{Moment}
use Rattle.der_tree.specs.TimeReading.{◌>>=◌, pair_at}
use Rattle.cert_model.specs.Fields.{CivilTime}
use Rattle.cert_model.specs.Times.{is_real, civil_of}

-- two digits after a separator
abbrev pub part_at : ℕ → List ℕ → Option (ℕ × List ℕ)
part_at separator [] = None
part_at separator (first ∷ rest) = if first == separator then pair_at rest else None

-- the parts at the front
unfoldable pub text_at : List ℕ → Option (Moment × List ℕ)
text_at i = do
  century ← pair_at i
  year ← pair_at century.1
  month ← part_at 45 year.1
  day ← part_at 45 month.1
  hour ← part_at 84 day.1
  minute ← part_at 58 hour.1
  second ← part_at 58 minute.1
  Some (record { year = century.0 * 100 + year.0; month = month.0; day = day.0; hour = hour.0; minute = minute.0; second = second.0 }, second.1)

abbrev pub is_end : List ℕ → Bool
is_end [] = true
is_end (x ∷ xs) = false

-- the moment of a whole text
unfoldable pub moment_in : List ℕ → Option CivilTime
moment_in i = do
  m ← text_at i
  if is_end m.1 && is_real m.0 then Some (civil_of m.0) else None
