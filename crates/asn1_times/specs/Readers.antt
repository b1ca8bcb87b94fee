-- Functions that compute what the readers of times return: `Reading` step by step, then tests of
-- the fields. The meaning is in `UtcTimes`, `GeneralizedTimes` and `Moments`; laws tie each
-- function to it.
use Rattle.std.specs.Prelude.{◌≡◌, ◌-◌, ℕ, ℤ, pos, negsuc, neg_ℤ, ◌-ℤ◌, ◌*ℤ◌, unsigned_abs, int_le, nat_lt, nat_le, ◌==◌, ◌&&◌, Bool, true, false, if◌then◌else◌, Option, Some, None, is_none, Result, Ok, Err, is_ok, List, length, slice_index}
use Rattle.jiff.specs.Words.{civil_nanos, days_in_month}
use Rattle.jiff_core.specs.declared.civil.datetime.DateTime.{DateTime}
use Rattle.asn1_core.specs.declared.error.Error.{Error}
use Rattle.asn1_core.specs.declared.error.Error.TheVariants as errors
use Rattle.asn1_core.specs.declared.error.DerConstraint.TheVariants as constraints
use Rattle.asn1_times.specs.Reading.{◌>>=◌, utc_at, generalized_at}
use Rattle.asn1_times.specs.Refused.{IsInvalidValue}
use Rattle.asn1_times.specs.Moments.{thousandths, local_nanos, zone_minutes}
use Rattle.asn1_times.specs.declared.datetime.ASN1DateTime.{ASN1DateTime}
use Rattle.asn1_times.specs.declared.datetime.ASN1TimeZone.{ASN1TimeZone}
use Rattle.asn1_times.specs.declared.datetime.ASN1TimeZone.TheVariants as zones

-- hours to 23 and minutes to 59, of any sign
abbrev pub is_clock_offset : ℤ → ℤ → Bool
is_clock_offset h m = nat_lt (unsigned_abs h) 24 && nat_lt (unsigned_abs m) 60

-- the minutes are negative only if the hours are 0
abbrev pub has_one_sign : ℤ → ℤ → Bool
has_one_sign h (pos m) = true
has_one_sign h (negsuc m) = unsigned_abs h == 0

-- no offset, or one in range
abbrev pub is_zone : ASN1TimeZone → Bool
is_zone zones.Undefined = true
is_zone zones.Z = true
is_zone (zones.Offset h m) = is_clock_offset h m && has_one_sign h m

-- Z, or an offset in range
abbrev pub is_told_zone : ASN1TimeZone → Bool
is_told_zone zones.Undefined = false
is_told_zone zones.Z = true
is_told_zone (zones.Offset h m) = is_clock_offset h m && has_one_sign h m

-- no fraction, or one that is more than 0 and less than a second
abbrev pub is_fraction : Option ℕ → Bool
is_fraction None = true
is_fraction (Some n) = nat_le 1 n && nat_le n 999

-- fields from the month to the second are in range; whether the month has the day isn't asked
abbrev pub is_clock : ASN1DateTime → Bool
is_clock t =
    (nat_le 1 t.month && nat_le t.month 12) && (nat_le 1 t.day && nat_le t.day 31) && nat_lt t.hour 24 && nat_lt t.minute 60 && nat_lt t.second 60

-- fields that a UTCTime can have
abbrev pub is_utc_time : ASN1DateTime → Bool
is_utc_time t = nat_lt t.year 100 && is_clock t && is_none t.millisecond && is_told_zone t.tz

-- fields that a GeneralizedTime can have
abbrev pub has_fields : ASN1DateTime → Bool
has_fields t = nat_lt t.year 10000 && is_clock t && is_fraction t.millisecond && is_zone t.tz

-- the UTCTime of content octets, if they are one's, by BER and by DER
unfoldable pub utc_time_at : List ℕ → Option ASN1DateTime
utc_time_at content = do
  t ← utc_at content
  if is_utc_time t then Some t else None

-- the GeneralizedTime of content octets, if they are one's, by the rules of BER
unfoldable pub generalized_time_at : List ℕ → Option ASN1DateTime
generalized_time_at content = do
  t ← generalized_at content
  if has_fields t then Some t else None

-- the last octet is Z; there is none of no octets
abbrev pub ends_in_z : List ℕ → Bool
ends_in_z content = slice_index content (length content - 1) == 90

-- whether DER takes the octets of a GeneralizedTime, and why it doesn't
unfoldable pub der_check : List ℕ → Result (Unit {0}) Error
der_check content =
    if ends_in_z content
    then (if nat_le 15 (length content) then Ok tt else Err (errors.DerConstraintFailed constraints.MissingSeconds))
    else Err (errors.DerConstraintFailed constraints.MissingTimeZone)

-- the GeneralizedTime of content octets by DER, if they are one's
abbrev pub der_generalized_time_at : List ℕ → Option ASN1DateTime
der_generalized_time_at content = if is_ok (der_check content) then generalized_time_at content else None

-- the time that is read, or InvalidValue of the tag number if none is
abbrev pub GivesTime : {V : Type 0} → (V → ASN1DateTime) → ℕ → Result V Error → Option ASN1DateTime → Type 0
GivesTime time_of tag (Ok v) read = read ≡ Some (time_of v)
GivesTime time_of tag (Err e) read = (read ≡ None) × IsInvalidValue tag e

-- the calendar has the date in this year, to 9999, and a clock shows the time
abbrev pub has_clock : ℕ → ASN1DateTime → Bool
has_clock year t =
    nat_le year 9999 && (nat_le 1 t.month && nat_le t.month 12) && (nat_le 1 t.day && nat_le t.day (days_in_month (pos year) t.month))
    && nat_lt t.hour 24 && nat_lt t.minute 60 && nat_lt t.second 60 && nat_lt (thousandths t.millisecond) 1000

-- no offset, or one of hours to 23 and minutes to 59
abbrev pub is_clock_zone : ASN1TimeZone → Bool
is_clock_zone zones.Undefined = true
is_clock_zone zones.Z = true
is_clock_zone (zones.Offset h m) = is_clock_offset h m

-- nanoseconds since 1970 began in universal time: the offset is taken off
abbrev pub universal_nanos : ℕ → ASN1DateTime → ℤ
universal_nanos year t = local_nanos year t -ℤ zone_minutes t.tz *ℤ pos 60_000_000_000

-- -9999-01-01T00:00:00
abbrev pub first_nanos : ℤ
first_nanos = neg_ℤ (pos 377_705_116_800_000_000_000)

-- the last nanosecond of 9999-12-31
abbrev pub last_nanos : ℤ
last_nanos = pos 253_402_300_799_999_999_999

-- the calendar has the moment
abbrev pub is_civil_nanos : ℤ → Bool
is_civil_nanos n = int_le first_nanos n && int_le n last_nanos

-- the number, if the calendar has its moment
abbrev pub civil_only : ℤ → Option ℤ
civil_only n = if is_civil_nanos n then Some n else None

-- the moment in universal time of the date and time in this year, in nanoseconds since 1970 began,
-- if the calendar has it
unfoldable pub moment_at : ℕ → ASN1DateTime → Option ℤ
moment_at year t = if has_clock year t && is_clock_zone t.tz then civil_only (universal_nanos year t) else None

-- the date and time of the moment, or InvalidDateTime if there is none
abbrev pub GivesNanos : Result DateTime Error → Option ℤ → Type 0
GivesNanos (Ok r) read = read ≡ Some (civil_nanos r)
GivesNanos (Err e) read = (read ≡ None) × (e ≡ errors.InvalidDateTime)
