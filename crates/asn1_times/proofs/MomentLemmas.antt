-- Moments of dates and times.
use Rattle.std.proofs.Common.{◌≡◌, ◌∙◌, sym, ap, refl, subst, arith, ℕ, ◌<◌, ◌≤ℤ◌, ◌*◌, ℤ, pos, ◌-ℤ◌, ◌*ℤ◌, Result, Ok, Err, None}
use Rattle.std.proofs.lemmas.Int.{ints}
use Rattle.std.proofs.lemmas.Bool.Decides.{nat_tests}
use Rattle.jiff.specs.Words.{civil_nanos, IsCivilNanos}
use Rattle.jiff_core.proofs.DateTimeLemmas.{civil_nanos_range}
use Rattle.jiff_core.specs.declared.civil.datetime.DateTime.{DateTime}
use Rattle.asn1_core.specs.declared.error.Error.{Error}
use Rattle.asn1_times.specs.Moments.{thousandths, local_nanos, HasClock, HasSameFields, IsMomentOf, GivesMoment, GivesShifted, IsClockOffset, IsClockZone, offset_minutes, zone_minutes, full_year}
use Rattle.asn1_times.specs.Readers.{universal_nanos, moment_at, GivesNanos}
use Rattle.asn1_times.specs.ReaderLaws.{moment_is, moment_none}
use Rattle.asn1_times.specs.declared.datetime.ASN1DateTime.{ASN1DateTime}
use Rattle.asn1_times.specs.declared.datetime.ASN1TimeZone.{ASN1TimeZone}
use Rattle.asn1_times.specs.declared.datetime.ASN1TimeZone.TheVariants as zones

pos_once : (m n : ℕ) → pos m ≡ pos n → m ≡ n
pos_once m n e = omega (arith, ints)

-- a date and time with the fields is the zone's clock
pub moment_local : (year : ℕ) (t : ASN1DateTime) (r : DateTime) → HasSameFields year t r → civil_nanos r ≡ local_nanos year t
unfolding civil_nanos
moment_local year t r p =
    let y = p.date.0 in
    let m : r.date.month ≡ t.month = pos_once _ _ p.date.1 in
    let d : r.date.day ≡ t.day = pos_once _ _ p.date.2 in
    let h : r.time.hour ≡ t.hour = pos_once _ _ p.time.0 in
    let n : r.time.minute ≡ t.minute = pos_once _ _ p.time.1 in
    let s : r.time.second ≡ t.second = pos_once _ _ p.time.2 in
    let f : r.time.subsec_nanosecond ≡ thousandths t.millisecond * 1_000_000 = pos_once _ _ p.time.3 in
    rw (y, m, d, h, n, s, f) refl

abbrev shifted_nanos : ℤ → ASN1TimeZone → ℤ
shifted_nanos n z = n -ℤ zone_minutes z *ℤ pos 60_000_000_000

same_nanos : (year : ℕ) (t : ASN1DateTime) (local : DateTime) (h m : ℤ) → HasSameFields year t local → t.tz ≡ zones.Offset h m →
    universal_nanos year t ≡ civil_nanos local -ℤ offset_minutes h m *ℤ pos 60_000_000_000
same_nanos year t local h m fields zone = ap (shifted_nanos (local_nanos year t)) zone ∙ ap (λ n. shifted_nanos n (zones.Offset h m)) (sym (moment_local year t local fields))

-- the offset taken off
pub moment_shifted : (year : ℕ) (t : ASN1DateTime) (local : DateTime) (h m : ℤ) (res : Result DateTime Error) → HasClock year t → HasSameFields year t local →
    t.tz ≡ zones.Offset h m → GivesShifted (IsClockOffset h m) (civil_nanos local -ℤ offset_minutes h m *ℤ pos 60_000_000_000) res → GivesMoment year t res
moment_shifted year t local h m (Ok r) clock fields zone g = record {
  clock = clock;
  zone = subst IsClockZone (sym zone) g.0;
  moment = g.1 ∙ ap (λ n. shifted_nanos n (zones.Offset h m)) (moment_local year t local fields) ∙ ap (shifted_nanos (local_nanos year t)) (sym zone);
}
moment_shifted year t local h m (Err e) clock fields zone g = (
  g.0,
  λ r p. g.1 (subst IsClockZone zone p.zone) (subst IsCivilNanos (p.moment ∙ same_nanos year t local h m fields zone) (civil_nanos_range r)),
)

-- the result is what the function of the moment gives
pub exact_shifted : (year : ℕ) (t : ASN1DateTime) (local : DateTime) (h m : ℤ) (res : Result DateTime Error) → HasClock year t → HasSameFields year t local →
    t.tz ≡ zones.Offset h m → GivesShifted (IsClockOffset h m) (civil_nanos local -ℤ offset_minutes h m *ℤ pos 60_000_000_000) res → GivesNanos res (moment_at year t)
exact_shifted year t local h m (Ok r) clock fields zone g = (moment_is year t r).1 (moment_shifted year t local h m (Ok r) clock fields zone g)
exact_shifted year t local h m (Err e) clock fields zone g =
    (moment_none year t (λ _ range is. g.1 (subst IsClockZone zone range) (subst IsCivilNanos (same_nanos year t local h m fields zone) is)), g.0)

-- no clock shows a year past 9999
pub late_year : (year : ℕ) (t : ASN1DateTime) → 9999 < year → moment_at (full_year year) t ≡ None
late_year year t late = moment_none (full_year year) t (λ clock _ _. absurd (late_clock (full_year year) (full_year_late year late) clock.date.0.1))
  where
    full_year_late : (y : ℕ) → 9999 < y → 9999 < full_year y
    full_year_late y p = grind (arith, nat_tests)

    late_clock : (y : ℕ) → 9999 < y → pos y ≤ℤ pos 9999 → ⊥
    late_clock y p q = omega (arith, ints)

no_shift : (n : ℤ) → n ≡ n -ℤ pos 0 *ℤ pos 60_000_000_000
no_shift n = omega (arith, ints)

-- no offset: the date and time itself
moment_by : (z : ASN1TimeZone) (year : ℕ) (t : ASN1DateTime) (local : DateTime) → t.tz ≡ z → ((h m : ℤ) → z ≡ zones.Offset h m → ⊥) →
    HasClock year t → HasSameFields year t local → IsMomentOf year t local
moment_by zones.Undefined year t local zone none clock fields = record {
  clock = clock;
  zone = subst IsClockZone (sym zone) tt;
  moment = moment_local year t local fields ∙ no_shift (local_nanos year t) ∙ ap (shifted_nanos (local_nanos year t)) (sym zone);
}
moment_by zones.Z year t local zone none clock fields = record {
  clock = clock;
  zone = subst IsClockZone (sym zone) tt;
  moment = moment_local year t local fields ∙ no_shift (local_nanos year t) ∙ ap (shifted_nanos (local_nanos year t)) (sym zone);
}
moment_by (zones.Offset h m) year t local zone none clock fields = absurd (none h m refl)

pub moment_plain : (year : ℕ) (t : ASN1DateTime) (local : DateTime) → ((h m : ℤ) → t.tz ≡ zones.Offset h m → ⊥) → HasClock year t → HasSameFields year t local →
    IsMomentOf year t local
moment_plain year t local none clock fields = moment_by t.tz year t local refl none clock fields
