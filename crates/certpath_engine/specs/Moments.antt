-- Moments as the command line writes them.
use Rattle.std.specs.Prelude.{◌≡◌, ℕ, ◌/◌, ◌%◌, pos, List, ◌∷◌, ◌++◌}
use Rattle.der_tree.specs.Time.{Moment, IsMoment, two_digits}
use Rattle.cert_model.specs.Fields.{CivilTime}

-- YYYY-MM-DDTHH:MM:SS
abbrev pub moment_text : Moment → List ℕ
moment_text m =
    two_digits (m.year / 100) ++ (two_digits (m.year % 100) ++ (45 ∷ two_digits m.month ++ (45 ∷ two_digits m.day
    ++ (84 ∷ two_digits m.hour ++ (58 ∷ two_digits m.minute ++ (58 ∷ two_digits m.second))))))

-- the date and time of day of a moment, on the whole second
abbrev pub whole_second : Moment → CivilTime
whole_second m = record { year = pos m.year; month = m.month; day = m.day; hour = m.hour; minute = m.minute; second = m.second; nanosecond = 0 }

-- the text writes the moment: the calendar has its date, and a clock shows its time
pub record WritesMoment (text : List ℕ) (t : CivilTime) : Type 0 where
  pub moment : Moment
  pub is_moment : IsMoment moment
  pub text_is : text ≡ moment_text moment
  pub told : t ≡ whole_second moment
