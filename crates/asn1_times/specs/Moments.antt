-- The moment in universal time of a date and time.
use Rattle.std.specs.Prelude.{◌≡◌, ◌+◌, ◌*◌, ◌<◌, ℕ, zero, suc, ℤ, pos, negsuc, neg_ℤ, unsigned_abs, nat_le, if◌then◌else◌, ◌+ℤ◌, ◌-ℤ◌, ◌*ℤ◌, Option, Some, None, Result, Ok, Err}
use Rattle.jiff.specs.Words.{IsDate, IsTime, IsYmd, IsHms, IsCivilNanos, civil_nanos}
use Rattle.jiff_core.specs.Calendar.{days_from_civil}
use Rattle.jiff_core.specs.declared.civil.datetime.DateTime.{DateTime}
use Rattle.asn1_core.specs.declared.error.Error.{Error}
use Rattle.asn1_core.specs.declared.error.Error.TheVariants as errors
use Rattle.asn1_times.specs.declared.datetime.ASN1DateTime.{ASN1DateTime}
use Rattle.asn1_times.specs.declared.datetime.ASN1TimeZone.{ASN1TimeZone}
use Rattle.asn1_times.specs.declared.datetime.ASN1TimeZone.TheVariants as zones

-- minutes that a clock is ahead of universal time; the hours have the sign, or the minutes if
-- the hours are 0
abbrev pub offset_minutes : ℤ → ℤ → ℤ
offset_minutes (pos zero) m = m
offset_minutes (pos (suc h)) m = pos (suc h * 60 + unsigned_abs m)
offset_minutes (negsuc h) m = neg_ℤ (pos (suc h * 60 + unsigned_abs m))

abbrev pub zone_minutes : ASN1TimeZone → ℤ
zone_minutes zones.Undefined = pos 0
zone_minutes zones.Z = pos 0
zone_minutes (zones.Offset h m) = offset_minutes h m

-- hours to 23 and minutes to 59, of any sign
abbrev pub IsClockOffset : ℤ → ℤ → Type 0
IsClockOffset h m = (unsigned_abs h < 24) × (unsigned_abs m < 60)

abbrev pub IsClockZone : ASN1TimeZone → Type 0
IsClockZone zones.Undefined = Unit {0}
IsClockZone zones.Z = Unit {0}
IsClockZone (zones.Offset h m) = IsClockOffset h m

-- no fraction is 0
abbrev pub thousandths : Option ℕ → ℕ
thousandths None = 0
thousandths (Some n) = n

-- nanoseconds since midnight
abbrev pub clock_nanos : ASN1DateTime → ℕ
clock_nanos t = (t.hour * 3600 + t.minute * 60 + t.second) * 1_000_000_000 + thousandths t.millisecond * 1_000_000

-- nanoseconds since 1970 began on the zone's clock, in this year
abbrev pub local_nanos : ℕ → ASN1DateTime → ℤ
local_nanos year t = days_from_civil (pos year) t.month t.day *ℤ pos 86_400_000_000_000 +ℤ pos (clock_nanos t)

-- the calendar has the date in this year, to 9999, and a clock shows the time
pub record HasClock (year : ℕ) (t : ASN1DateTime) : Type 0 where
  pub date : IsDate (pos year) (pos t.month) (pos t.day)
  pub time : IsTime (pos t.hour) (pos t.minute) (pos t.second) (pos (thousandths t.millisecond * 1_000_000))

-- the moment in universal time of the date and time in this year: the offset is taken off
pub record IsMomentOf (year : ℕ) (t : ASN1DateTime) (r : DateTime) : Type 0 where
  pub clock : HasClock year t
  pub zone : IsClockZone t.tz
  pub moment : civil_nanos r ≡ local_nanos year t -ℤ zone_minutes t.tz *ℤ pos 60_000_000_000

-- the date and time have the very fields
pub record HasSameFields (year : ℕ) (t : ASN1DateTime) (r : DateTime) : Type 0 where
  pub date : IsYmd (pos year) (pos t.month) (pos t.day) r.date
  pub time : IsHms (pos t.hour) (pos t.minute) (pos t.second) (pos (thousandths t.millisecond * 1_000_000)) r.time

-- no offset is given
abbrev pub HasNoOffset : ASN1TimeZone → Type 0
HasNoOffset zones.Undefined = Unit {0}
HasNoOffset zones.Z = Unit {0}
HasNoOffset (zones.Offset h m) = ⊥

-- the moment, or that there is none
abbrev pub GivesMoment : ℕ → ASN1DateTime → Result DateTime Error → Type 0
GivesMoment year t (Ok r) = IsMomentOf year t r
GivesMoment year t (Err e) = (e ≡ errors.InvalidDateTime) × ((r : DateTime) → IsMomentOf year t r → ⊥)

-- the date and time of these nanoseconds, or that the calendar has none, or the offset isn't in
-- range
abbrev pub GivesShifted : Type 0 → ℤ → Result DateTime Error → Type 0
GivesShifted InRange nanos (Ok r) = InRange × (civil_nanos r ≡ nanos)
GivesShifted InRange nanos (Err e) = (e ≡ errors.InvalidDateTime) × (InRange → IsCivilNanos nanos → ⊥)

-- YY from 50 on is 19YY, else 20YY (RFC 5280, 4.1.2.5.1)
abbrev pub full_year : ℕ → ℕ
full_year yy = if nat_le 50 yy then 1900 + yy else 2000 + yy
