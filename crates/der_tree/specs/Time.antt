-- UTCTime and GeneralizedTime as DER writes them (X.690, 11.7 and 11.8).
use Rattle.std.specs.Prelude.{◌≡◌, ℕ, ◌+◌, ◌/◌, ◌%◌, ◌≤◌, ◌<◌, ◌==◌, pos, Bool, false, IsTrue, List, [], ◌∷◌, ◌++◌}
use Rattle.std.specs.List.{list_all}
use Rattle.std.specs.Char.{is_ascii_digit}
use Rattle.jiff.specs.Words.{IsDate, IsTime}

-- a date and a time of day, to the second
pub record Moment : Type 0 where
  pub year : ℕ
  pub month : ℕ
  pub day : ℕ
  pub hour : ℕ
  pub minute : ℕ
  pub second : ℕ

-- the calendar has the date, from year 0 to year 9999, and a clock shows the time: seconds go to 59
abbrev pub IsMoment : Moment → Type 0
IsMoment m = IsDate (pos m.year) (pos m.month) (pos m.day) × IsTime (pos m.hour) (pos m.minute) (pos m.second) (pos 0)

-- a number below 100 as two digits
abbrev pub two_digits : ℕ → List ℕ
two_digits n = (48 + n / 10) ∷ (48 + n % 10) ∷ []

-- MMDDHHMMSS
abbrev pub after_year : Moment → List ℕ
after_year m = two_digits m.month ++ two_digits m.day ++ two_digits m.hour ++ two_digits m.minute ++ two_digits m.second

-- YYMMDDHHMMSSZ, of the years 1950 to 2049 (X.690, 11.8; RFC 5280, 4.1.2.5.1)
pub record IsUtcTime (s : List ℕ) : Type 0 where
  pub moment : Moment
  pub is_moment : IsMoment moment
  pub first : 1950 ≤ moment.year
  pub last : moment.year < 2050
  pub octets : s ≡ two_digits (moment.year % 100) ++ after_year moment ++ 90 ∷ []

abbrev pub ends_in_zero : List ℕ → Bool
ends_in_zero [] = false
ends_in_zero (d ∷ []) = d == 48
ends_in_zero (d ∷ e ∷ ds) = ends_in_zero (e ∷ ds)

-- digits whose last isn't 0, after a point, or nothing
abbrev pub fraction_octets : List ℕ → List ℕ
fraction_octets [] = []
fraction_octets (d ∷ ds) = 46 ∷ d ∷ ds

-- YYYYMMDDHHMMSSZ, or with a fraction of the second before Z (X.690, 11.7)
pub record IsGeneralizedTime (s : List ℕ) : Type 0 where
  pub moment : Moment
  pub fraction : List ℕ
  pub is_moment : IsMoment moment
  pub digits : IsTrue (list_all is_ascii_digit fraction)
  pub no_last_zero : ends_in_zero fraction ≡ false
  pub octets : s ≡ two_digits (moment.year / 100) ++ two_digits (moment.year % 100) ++ after_year moment ++ fraction_octets fraction ++ 90 ∷ []
