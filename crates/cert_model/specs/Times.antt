-- Times read of a tree. These functions retrace the code.
use Rattle.std.specs.Prelude.{ℕ, ◌==◌, ◌&&◌, nat_lt, nat_le, pos, Bool, false, if◌then◌else◌, List, [], ◌∷◌, Option, Some, None}
use Rattle.jiff.specs.Words.{days_in_month}
use Rattle.der_tree.specs.Table.{utc_time, generalized_time}
use Rattle.der_tree.specs.Time.{Moment}
use Rattle.der_tree.specs.TimeReading.{utc_at, generalized_at}
use Rattle.der_tree.specs.Tree.{Tree}
use Rattle.der_tree.specs.Access.{plain_at}
use Rattle.cert_model.specs.Fields.{CivilTime}
use Rattle.cert_model.specs.Reads.{◌>>=◌}

-- the calendar has the date, and a clock shows the time
abbrev pub is_real : Moment → Bool
is_real m =
    nat_le 1 m.month && nat_le m.month 12 && nat_le 1 m.day && nat_le m.day (days_in_month (pos m.year) m.month)
    && nat_lt m.hour 24 && nat_lt m.minute 60 && nat_lt m.second 60

abbrev pub civil_of : Moment → CivilTime
civil_of m = record { year = pos m.year; month = m.month; day = m.day; hour = m.hour; minute = m.minute; second = m.second; nanosecond = 0 }

-- Z alone
abbrev pub is_zulu : List ℕ → Bool
is_zulu [] = false
is_zulu (c ∷ []) = c == 90
is_zulu (c ∷ d ∷ s) = false

-- YYMMDDHHMMSSZ
unfoldable pub utc_time_at : Tree → Option CivilTime
utc_time_at t = do
  s ← plain_at utc_time t
  m ← utc_at s
  if is_zulu m.1 && is_real m.0 then Some (civil_of m.0) else None

-- YYYYMMDDHHMMSSZ from the year 2050 on
unfoldable pub late_time_at : Tree → Option CivilTime
late_time_at t = do
  s ← plain_at generalized_time t
  m ← generalized_at s
  if nat_le 2050 m.0.year && is_zulu m.1 && is_real m.0 then Some (civil_of m.0) else None

abbrev pub or_else : {A : Type 0} → Option A → Option A → Option A
or_else (Some a) o = Some a
or_else None o = o

unfoldable pub time_at : Tree → Option CivilTime
time_at t = or_else (utc_time_at t) (late_time_at t)
