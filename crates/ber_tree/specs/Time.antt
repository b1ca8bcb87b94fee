-- UTCTime and GeneralizedTime as BER allows them (X.680, 46 and 47).
use Rattle.std.specs.Prelude.{◌≡◌, ℕ, ◌≤◌, ◌<◌, false, IsTrue, Option, Some, None, IfSome, List, [], ◌∷◌, ◌++◌, length}
use Rattle.std.specs.List.{list_all}
use Rattle.std.specs.Char.{is_ascii_digit}
use Rattle.der_tree.specs.Time.{two_digits, fraction_octets, ends_in_zero}

-- month, day, hour and minute; whether the month has the day isn't asked
pub record Clock : Type 0 where
  pub month : ℕ
  pub day : ℕ
  pub hour : ℕ
  pub minute : ℕ

pub record IsClock (c : Clock) : Type 0 where
  pub first_month : 1 ≤ c.month
  pub month : c.month ≤ 12
  pub first_day : 1 ≤ c.day
  pub day : c.day ≤ 31
  pub hour : c.hour ≤ 23
  pub minute : c.minute ≤ 59

-- MMDDHHMM
abbrev pub clock_octets : Clock → List ℕ
clock_octets c = two_digits c.month ++ two_digits c.day ++ two_digits c.hour ++ two_digits c.minute

-- a second, and the digits of its fraction
pub record Second : Type 0 where
  pub number : ℕ
  pub fraction : List ℕ

-- at most three digits, the last not 0
pub record IsSecond (s : Second) : Type 0 where
  pub number : s.number ≤ 59
  pub digits : IsTrue (list_all is_ascii_digit s.fraction)
  pub few : length s.fraction ≤ 3
  pub no_last_zero : ends_in_zero s.fraction ≡ false

-- SS, then a point and digits or nothing; or nothing at all
abbrev pub second_octets : Option Second → List ℕ
second_octets None = []
second_octets (Some s) = two_digits s.number ++ fraction_octets s.fraction

-- Z, or by how much the clock is ahead of that time or late
pub data Zone : Type 0 where
  utc : Zone
  ahead : ℕ → ℕ → Zone
  behind : ℕ → ℕ → Zone

abbrev pub IsZone : Zone → Type 0
IsZone utc = Unit {0}
IsZone (ahead hour minute) = (hour ≤ 23) × (minute ≤ 59)
IsZone (behind hour minute) = (hour ≤ 23) × (minute ≤ 59)

abbrev pub zone_octets : Zone → List ℕ
zone_octets utc = 90 ∷ []
zone_octets (ahead hour minute) = 43 ∷ two_digits hour ++ two_digits minute
zone_octets (behind hour minute) = 45 ∷ two_digits hour ++ two_digits minute

-- or nothing, for local time
abbrev pub local_octets : Option Zone → List ℕ
local_octets None = []
local_octets (Some zone) = zone_octets zone

-- YYMMDDHHMM, SS or none, and a zone
pub record IsBerUtcTime (s : List ℕ) : Type 0 where
  pub year : ℕ
  pub clock : Clock
  pub second : Option Second
  pub zone : Zone
  pub is_year : year < 100
  pub is_clock : IsClock clock
  pub is_second : IfSome second (λ n. IsSecond n × (n.fraction ≡ []))
  pub is_zone : IsZone zone
  pub octets : s ≡ two_digits year ++ clock_octets clock ++ second_octets second ++ zone_octets zone

-- YYYYMMDDHHMM, SS and its fraction or none, and a zone or none
pub record IsBerGeneralizedTime (s : List ℕ) : Type 0 where
  pub century : ℕ
  pub year : ℕ
  pub clock : Clock
  pub second : Option Second
  pub zone : Option Zone
  pub is_century : century < 100
  pub is_year : year < 100
  pub is_clock : IsClock clock
  pub is_second : IfSome second IsSecond
  pub is_zone : IfSome zone IsZone
  pub octets : s ≡ two_digits century ++ two_digits year ++ clock_octets clock ++ second_octets second ++ local_octets zone
