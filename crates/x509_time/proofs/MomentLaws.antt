-- The function of a moment finds the moment, and nothing else.
use Rattle.std.proofs.Common.{◌≡◌, sym, ap, refl, subst, arith, ◌<◌, ◌≤◌, ◌*◌, ◌&&◌, ℕ, ℤ, pos, ◌≤ℤ◌, unsigned_abs, int_le, Bool, true, false, nat_lt, nat_le, Some, Decides}
use Rattle.std.specs.Int.{IsInRange}
use Rattle.std.proofs.lemmas.Bool.{le-leb, leb-true, and_parts}
use Rattle.std.proofs.lemmas.Bool.Decides.{Decides-and, Decides-ltb}
use Rattle.std.proofs.lemmas.Int.{ints}
use Rattle.std.proofs.lemmas.Option.{cond_some}
use Rattle.jiff.specs.Words.{IsCivilNanos, days_in_month}
use Rattle.asn1_times.specs.Moments.{thousandths, IsClockZone, HasClock}
use Rattle.asn1_times.specs.Readers.{has_clock, is_clock_zone, universal_nanos, first_nanos, last_nanos, is_civil_nanos, civil_only, moment_at}
use Rattle.asn1_times.specs.declared.datetime.ASN1DateTime.{ASN1DateTime}
use Rattle.asn1_times.specs.declared.datetime.ASN1TimeZone.{ASN1TimeZone}
use Rattle.asn1_times.specs.declared.datetime.ASN1TimeZone.TheVariants as zones
use Rattle.x509_time.specs.Times.{IsMoment}

Decides-le : (a b : ℕ) → Decides (nat_le a b) (a ≤ b)
Decides-le a b = (leb-true a b, le-leb a b)

range_told : (low high n : ℕ) → Decides (nat_le low n && nat_le n high) (IsInRange low high n)
range_told low high n = Decides-and (nat_le low n) (nat_le n high) (Decides-le low n) (Decides-le n high)

zone_told : (z : ASN1TimeZone) → Decides (is_clock_zone z) (IsClockZone z)
zone_told zones.Undefined = (λ _. tt, λ _. refl)
zone_told zones.Z = (λ _. tt, λ _. refl)
zone_told (zones.Offset h m) = Decides-and (nat_lt (unsigned_abs h) 24) (nat_lt (unsigned_abs m) 60) (Decides-ltb (unsigned_abs h) 24) (Decides-ltb (unsigned_abs m) 60)

-- the calendar and the clock of the fields, as numbers without a sign
abbrev ClockParts : ℕ → ASN1DateTime → Type 0
ClockParts year t =
    (year ≤ 9999) × IsInRange 1 12 t.month × IsInRange 1 (days_in_month (pos year) t.month) t.day
    × (t.hour < 24) × (t.minute < 60) × (t.second < 60) × (thousandths t.millisecond < 1000)

parts_told : (year : ℕ) (t : ASN1DateTime) → Decides (has_clock year t) (ClockParts year t)
parts_told year t =
    let month = nat_le 1 t.month && nat_le t.month 12 in
    let days = days_in_month (pos year) t.month in
    let day = nat_le 1 t.day && nat_le t.day days in
    let one = Decides-and (nat_le year 9999) month (Decides-le year 9999) (range_told 1 12 t.month) in
    let two = Decides-and (nat_le year 9999 && month) day one (range_told 1 days t.day) in
    let three = Decides-and (nat_le year 9999 && month && day) (nat_lt t.hour 24) two (Decides-ltb t.hour 24) in
    let four = Decides-and (nat_le year 9999 && month && day && nat_lt t.hour 24) (nat_lt t.minute 60) three (Decides-ltb t.minute 60) in
    let five = Decides-and (nat_le year 9999 && month && day && nat_lt t.hour 24 && nat_lt t.minute 60) (nat_lt t.second 60) four (Decides-ltb t.second 60) in
    let all = Decides-and (nat_le year 9999 && month && day && nat_lt t.hour 24 && nat_lt t.minute 60 && nat_lt t.second 60)
    (nat_lt (thousandths t.millisecond) 1000) five (Decides-ltb (thousandths t.millisecond) 1000) in (
      λ e. let p = all.0 e in (p.0.0.0.0.0.0, p.0.0.0.0.0.1, p.0.0.0.0.1, p.0.0.0.1, p.0.0.1, p.0.1, p.1),
      λ p. all.1 ((((((p.0, p.1), p.2), p.3), p.4), p.5), p.6),
    )

pos_le : (m n : ℕ) → m ≤ n → pos m ≤ℤ pos n
pos_le m n p = omega (arith, ints)

le_pos : (m n : ℕ) → pos m ≤ℤ pos n → m ≤ n
le_pos m n p = omega (arith, ints)

clock_told : (year : ℕ) (t : ASN1DateTime) → Decides (has_clock year t) (HasClock year t)
clock_told year t =
    let parts = parts_told year t in
    let days = days_in_month (pos year) t.month in (
      λ e.
          let p = parts.0 e in record {
            date = ((omega (arith, ints), pos_le year 9999 p.0), (pos_le 1 t.month p.1.0, pos_le t.month 12 p.1.1), (pos_le 1 t.day p.2.0, pos_le t.day days p.2.1));
            time = (
              (pos_le 0 t.hour (omega arith), pos_le t.hour 23 (omega (arith, p.3))),
              (pos_le 0 t.minute (omega arith), pos_le t.minute 59 (omega (arith, p.4))),
              (pos_le 0 t.second (omega arith), pos_le t.second 59 (omega (arith, p.5))),
              (pos_le 0 _ (omega arith), pos_le (thousandths t.millisecond * 1_000_000) 999_999_999 (omega (arith, p.6))),
            );
          },
      λ h.
          let hour = le_pos t.hour 23 h.time.0.1 in
          let minute = le_pos t.minute 59 h.time.1.1 in
          let second = le_pos t.second 59 h.time.2.1 in
          let fraction = le_pos (thousandths t.millisecond * 1_000_000) 999_999_999 h.time.3.1 in
          parts.1 (
            le_pos year 9999 h.date.0.1,
            (le_pos 1 t.month h.date.1.0, le_pos t.month 12 h.date.1.1),
            (le_pos 1 t.day h.date.2.0, le_pos t.day days h.date.2.1),
            omega arith,
            omega arith,
            omega arith,
            omega arith,
          ),
    )

Decides-int_le : (m n : ℤ) → Decides (int_le m n) (m ≤ℤ n)
Decides-int_le m n = (λ e. grind (arith, ints), λ p. grind (arith, ints))

civil_told : (n : ℤ) → Decides (is_civil_nanos n) (IsCivilNanos n)
civil_told n = Decides-and (int_le first_nanos n) (int_le n last_nanos) (Decides-int_le first_nanos n) (Decides-int_le n last_nanos)

-- what the function gives is the moment
pub moment_found : (year : ℕ) (t : ASN1DateTime) (n : ℤ) → moment_at year t ≡ Some n → IsMoment year t n
unfolding moment_at
moment_found year t n e =
    let whole = by (has_clock year t && is_clock_zone t.tz) refl in
    let tests = and_parts _ _ whole.0 in
    let value = cond_some (is_civil_nanos (universal_nanos year t)) (universal_nanos year t) n whole.1 in
    record { clock = (clock_told year t).0 tests.0; value = sym value.1 }
  where
    by : (b : Bool) → (has_clock year t && is_clock_zone t.tz) ≡ b → ((has_clock year t && is_clock_zone t.tz) ≡ true) × (civil_only (universal_nanos year t) ≡ Some n)
    by true is = (is, rw is at e)
    by false is = let never = rw is at e in cc

-- the function gives the moment, which the calendar has
pub moment_only : (year : ℕ) (t : ASN1DateTime) (n : ℤ) → IsClockZone t.tz → IsCivilNanos n → IsMoment year t n → moment_at year t ≡ Some n
unfolding moment_at
moment_only year t n zone civil is =
    let first = (clock_told year t).1 is.clock in
    let second = (zone_told t.tz).1 zone in
    let third = (civil_told (universal_nanos year t)).1 (subst IsCivilNanos is.value civil) in
    rw (first, second, third) (ap Some (sym is.value))
