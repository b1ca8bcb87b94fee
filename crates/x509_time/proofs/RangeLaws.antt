-- No moment of a time is out of the calendar.
use Rattle.std.proofs.Common.{◌≡◌, ◌∙◌, sym, ap, subst, arith, ◌<◌, ◌≤◌, ◌*◌, ℕ, zero, suc, ℤ, pos, negsuc, neg_ℤ, ◌+ℤ◌, ◌-ℤ◌, ◌*ℤ◌, ◌≤ℤ◌}
use Rattle.std.proofs.lemmas.Bool.Decides.{nat_tests}
use Rattle.std.proofs.lemmas.Int.{ints}
use Rattle.jiff.specs.Words.{IsCivilNanos, days_in_month}
use Rattle.jiff_core.specs.Calendar.{days_from_civil, IsCivilDate, IsBetween}
use Rattle.jiff_core.proofs.CalendarLemmas.{day_count_bounds, day_count-lt_year, day_count-year_bounds, day_count-min, days_from_civil-day_count, days_in_year_bounds}
use Rattle.jiff_core.proofs.SignedLemmas.{signed_arith}
use Rattle.asn1_times.specs.Fields.{IsToldZone}
use Rattle.asn1_times.specs.Moments.{thousandths, clock_nanos, local_nanos, zone_minutes, IsClockZone, HasClock, full_year}
use Rattle.asn1_times.specs.declared.datetime.ASN1DateTime.{ASN1DateTime}
use Rattle.asn1_times.specs.declared.datetime.ASN1TimeZone.{ASN1TimeZone}
use Rattle.asn1_times.specs.declared.datetime.ASN1TimeZone.TheVariants as zones

le_pos : (m n : ℕ) → pos m ≤ℤ pos n → m ≤ n
le_pos m n p = omega (arith, ints)

date_of : (year : ℕ) (t : ASN1DateTime) → HasClock year t → IsCivilDate (pos year) t.month t.day
date_of year t h =
    let days = days_in_month (pos year) t.month in
    (h.date.0, (le_pos 1 t.month h.date.1.0, le_pos t.month 12 h.date.1.1), (le_pos 1 t.day h.date.2.0, le_pos t.day days h.date.2.1))

clock_small : (year : ℕ) (t : ASN1DateTime) → HasClock year t → clock_nanos t < 86_400_000_000_000
clock_small year t h =
    let hour = le_pos t.hour 23 h.time.0.1 in
    let minute = le_pos t.minute 59 h.time.1.1 in
    let second = le_pos t.second 59 h.time.2.1 in
    let fraction = le_pos (thousandths t.millisecond * 1_000_000) 999_999_999 h.time.3.1 in
    omega arith

days_small : (year : ℕ) (t : ASN1DateTime) → HasClock year t → IsBetween (neg_ℤ (pos 4_371_587)) (pos 2_932_896) (days_from_civil (pos year) t.month t.day)
days_small year t h =
    let counted = days_from_civil-day_count (pos year) t.month t.day in
    let bounds = day_count_bounds (pos year) t.month t.day (date_of year t h) in
    omega (arith, signed_arith, counted, bounds)

local_small : (days : ℤ) (n : ℕ) → n < 86_400_000_000_000 → IsBetween (neg_ℤ (pos 4_371_587)) (pos 2_932_896) days → IsCivilNanos (days *ℤ pos 86_400_000_000_000 +ℤ pos n)
local_small days n small between = omega (arith, signed_arith, between)

no_offset : (n : ℤ) → n ≡ n -ℤ pos 0 *ℤ pos 60_000_000_000
no_offset n = omega (arith, signed_arith)

-- a moment that is expressed in universal time
pub universal_in : (year : ℕ) (t : ASN1DateTime) → HasClock year t → t.tz ≡ zones.Z → IsCivilNanos (local_nanos year t -ℤ zone_minutes t.tz *ℤ pos 60_000_000_000)
universal_in year t h zone =
    let here = local_small (days_from_civil (pos year) t.month t.day) (clock_nanos t) (clock_small year t h) (days_small year t h) in
    subst IsCivilNanos (no_offset (local_nanos year t) ∙ ap (λ z. local_nanos year t -ℤ zone_minutes z *ℤ pos 60_000_000_000) (sym zone)) here

zone_small : (z : ASN1TimeZone) → IsToldZone z → IsBetween (neg_ℤ (pos 1439)) (pos 1439) (zone_minutes z)
zone_small zones.Undefined told = absurd told
zone_small zones.Z told = (omega (arith, ints), omega (arith, ints))
zone_small (zones.Offset (pos zero) m) told = (omega (arith, ints, told.1), omega (arith, ints, told.1))
zone_small (zones.Offset (pos (suc h)) m) told = (omega (arith, ints, told.0, told.1), omega (arith, ints, told.0, told.1))
zone_small (zones.Offset (negsuc h) m) told = (omega (arith, ints, told.0, told.1), omega (arith, ints, told.0, told.1))

pub zone_shown : (z : ASN1TimeZone) → IsToldZone z → IsClockZone z
zone_shown zones.Undefined told = absurd told
zone_shown zones.Z told = tt
zone_shown (zones.Offset h m) told = (told.0, told.1)

days_within : (year : ℕ) (t : ASN1DateTime) → HasClock year t → 0 < year → year < 9999 → IsBetween (neg_ℤ (pos 4_371_586)) (pos 2_932_895) (days_from_civil (pos year) t.month t.day)
days_within year t h after before =
    let date = date_of year t h in
    let counted = days_from_civil-day_count (pos year) t.month t.day in
    let low = day_count-lt_year (neg_ℤ (pos 9999)) 1 1 (pos year) t.month t.day ((omega (arith, ints), omega (arith, ints)), (omega arith, omega arith), (omega arith, omega arith)) date.2.0 (omega (arith, ints)) in
    let high = day_count-lt_year (pos year) t.month t.day (pos 9999) 1 1 date (omega arith) (omega (arith, ints)) in
    let last = day_count-year_bounds (pos 9999) (omega (arith, ints), omega (arith, ints)) in
    omega (arith, signed_arith, counted, low, high, last.1, days_in_year_bounds (pos 9999), day_count-min)

shifted_small : (days : ℤ) (n : ℕ) (m : ℤ) → n < 86_400_000_000_000 → IsBetween (neg_ℤ (pos 4_371_586)) (pos 2_932_895) days → IsBetween (neg_ℤ (pos 1439)) (pos 1439) m
    → IsCivilNanos (days *ℤ pos 86_400_000_000_000 +ℤ pos n -ℤ m *ℤ pos 60_000_000_000)
shifted_small days n m small between minutes = omega (arith, signed_arith, between, minutes)

years_between : (yy : ℕ) → yy < 100 → (0 < full_year yy) × (full_year yy < 9999)
years_between yy small = (grind (arith, nat_tests), grind (arith, nat_tests))

-- a moment of a UTCTime, of whatever offset
pub utc_in : (t : ASN1DateTime) → t.year < 100 → IsToldZone t.tz → HasClock (full_year t.year) t → IsCivilNanos (local_nanos (full_year t.year) t -ℤ zone_minutes t.tz *ℤ pos 60_000_000_000)
utc_in t small told h =
    let year = full_year t.year in
    let between = years_between t.year small in
    shifted_small (days_from_civil (pos year) t.month t.day) (clock_nanos t) (zone_minutes t.tz) (clock_small year t h) (days_within year t h between.0 between.1) (zone_small t.tz told)
