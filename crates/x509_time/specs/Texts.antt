-- The texts of times.
use Rattle.std.specs.Prelude.{◌≡◌, ℕ, ◌+◌, ◌-◌, ◌/◌, ◌%◌, nat_lt, if◌then◌else◌, pos, ◌<ℤ◌, ◌≤ℤ◌, unsigned_abs, Result, Ok, Err, List, [], ◌∷◌, ◌++◌, slice_index_or, codes, String, string_bytes}
use Rattle.std.specs.Fmt.{signed_decimal}
use Rattle.jiff.specs.Words.{weekday_of}
use Rattle.x509_core.specs.declared.error.X509Error.{X509Error}
use Rattle.x509_core.specs.declared.error.X509Error.TheVariants as errors
use Rattle.jiff_core.specs.declared.civil.datetime.DateTime.{DateTime}
use Rattle.jiff_core.specs.declared.civil.time.Time.{Time as Clock}

-- the name of a month, from 1, in three letters
abbrev pub month_name : ℕ → List ℕ
month_name month =
    slice_index_or (codes "Jan" ∷ codes "Feb" ∷ codes "Mar" ∷ codes "Apr" ∷ codes "May" ∷ codes "Jun"
    ∷ codes "Jul" ∷ codes "Aug" ∷ codes "Sep" ∷ codes "Oct" ∷ codes "Nov" ∷ codes "Dec" ∷ []) (month - 1) []

-- the name of a weekday, from 0 for Monday, in three letters
abbrev pub weekday_name : ℕ → List ℕ
weekday_name day =
    slice_index_or (codes "Mon" ∷ codes "Tue" ∷ codes "Wed" ∷ codes "Thu" ∷ codes "Fri" ∷ codes "Sat" ∷ codes "Sun" ∷ []) day []

-- the last digit of a number
abbrev pub last_digit : ℕ → ℕ
last_digit n = 48 + n % 10

-- the last two digits of a number
abbrev pub two_digits : ℕ → List ℕ
two_digits n = last_digit (n / 10) ∷ last_digit n ∷ []

-- the last four
abbrev pub four_digits : ℕ → List ℕ
four_digits n = two_digits (n / 100) ++ two_digits n

-- a number below 100 in two places, a space before one digit
abbrev pub two_places : ℕ → List ℕ
two_places n = (if nat_lt n 10 then 32 else last_digit (n / 10)) ∷ last_digit n ∷ []

-- HH:MM:SS
abbrev pub clock_text : Clock → List ℕ
clock_text t = two_digits t.hour ++ codes ":" ++ two_digits t.minute ++ codes ":" ++ two_digits t.second

-- `Jul  1 10:52:37 2003 +00:00`; a fraction of a second isn't shown
abbrev pub time_text : DateTime → List ℕ
time_text d =
    month_name d.date.month ++ codes " " ++ two_places d.date.day ++ codes " " ++ clock_text d.time ++ codes " "
    ++ signed_decimal d.date.year ++ codes " +00:00"

-- `Tue, 01 Jul 2003 10:52:37 +0000` (RFC 5322, 3.3), of a year from 1900 on
abbrev pub rfc2822_text : DateTime → List ℕ
rfc2822_text d =
    weekday_name (weekday_of d.date) ++ codes ", " ++ two_digits d.date.day ++ codes " " ++ month_name d.date.month ++ codes " "
    ++ four_digits (unsigned_abs d.date.year) ++ codes " " ++ clock_text d.time ++ codes " +0000"

-- that text; InvalidDate before the year 1900, and nothing else but `OutOfMemory`
abbrev pub WritesRfc2822 : {A : Type 0} → DateTime → Result (String A) X509Error → Type 0
WritesRfc2822 d (Ok text) = (pos 1900 ≤ℤ d.date.year) × (string_bytes text ≡ rfc2822_text d)
WritesRfc2822 d (Err errors.InvalidDate) = d.date.year <ℤ pos 1900
WritesRfc2822 d (Err e) = e ≡ errors.OutOfMemory
