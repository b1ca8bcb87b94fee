-- Strict times are what the lenient grammars say, and their moments have one date and time of day.
use Rattle.std.proofs.Common.{◌≡◌, ◌∙◌, refl, sym, ap, subst, arith, ℕ, ◌+◌, ◌*◌, ◌/◌, ◌%◌, ◌<◌, ◌≤◌, nat_lt, Bool, true, false, not, ℤ, pos, negsuc, unsigned_abs, ◌≤ℤ◌, ◌+ℤ◌, ◌*ℤ◌, ◌-ℤ◌, List, [], ◌∷◌, ◌++◌, None, lit<, append-nil, length, ◌^◌}
use Rattle.std.proofs.lemmas.Bool.Decides.{nat_tests}
use Rattle.std.proofs.lemmas.Int.{ints}
use Rattle.jiff_core.proofs.SignedLemmas.{signed_arith}
use Rattle.jiff_core.specs.Calendar.{days_from_civil}
use Rattle.jiff_core.specs.declared.civil.date.Date.{Date}
use Rattle.jiff_core.specs.declared.civil.time.Time.{Time as Clock}
use Rattle.jiff_core.specs.declared.civil.datetime.DateTime.{DateTime}
use Rattle.jiff_core.proofs.CalendarLemmas.{days_in_month_bounds}
use Rattle.jiff_core.proofs.DateLemmas.{epoch_day_injective}
use Rattle.jiff_core.proofs.DateTimeLemmas.{civil_nanos-parts, civil_nanos_injective, time_nanos_injective}
use Rattle.jiff.specs.Words.{civil_nanos, days_in_month}
use Rattle.asn1_core.specs.Elements.{Element}
use Rattle.asn1_times.specs.Fields.{IsClock}
use Rattle.asn1_times.specs.UtcTimes.{utc_octets, UtcMeans}
use Rattle.asn1_times.specs.UtcLaws.{utc_means}
use Rattle.asn1_times.specs.GeneralizedTimes.{generalized_octets}
use Rattle.asn1_times.specs.Moments.{full_year, local_nanos}
use Rattle.asn1_times.specs.declared.datetime.ASN1DateTime.{ASN1DateTime}
use Rattle.asn1_times.specs.declared.datetime.ASN1TimeZone.TheVariants as zones
use Rattle.der_tree.specs.Time.{Moment, IsMoment as IsRealMoment, two_digits, after_year}
use Rattle.der_tree.proofs.TimeLemmas.{moment_writable}
use Rattle.cert_model.specs.Fields.{CivilTime}
use Rattle.cert_model.specs.Octets.{primitive_octets, moment_in, time_octets, validity_octets}
use Rattle.cert_model.specs.Range.{IsTimeField}
use Rattle.cert_model.specs.View.{time_view}
use Rattle.x509_core.specs.Grammar.{Holds}
use Rattle.x509_time.specs.Times.{IsMoment, UtcMoment, GeneralMoment, IsTime, utc_time, general_time, ASN1Time, ValidityParts, Validity}
use Rattle.x509_links.specs.Lenient.{nanoseconds_of, lenient_time, lenient_period}
use Rattle.x509_links.proofs.Strict.{one_strict, one_small}

-- ---- the fields of a time

-- the fields of a moment, of a year as it is written
abbrev fields_of : ℕ → Moment → ASN1DateTime
fields_of year m = record { year = year; month = m.month; day = m.day; hour = m.hour; minute = m.minute; second = m.second; millisecond = None; tz = zones.Z }

digit : (n : ℕ) → n < 100 → n / 10 % 10 ≡ n / 10
digit n small = omega arith

le_pos : (m n : ℕ) → pos m ≤ℤ pos n → m ≤ n
le_pos m n p = omega (arith, ints)

real_clock : (m : Moment) → IsRealMoment m → (year : ℕ) → IsClock (fields_of year m)
real_clock m real year =
    let last = le_pos m.day (days_in_month (pos m.year) m.month) real.0.2.1 in
    let days = days_in_month_bounds (pos m.year) m.month in (
      (le_pos 1 m.month real.0.1.0, le_pos m.month 12 real.0.1.1),
      (le_pos 1 m.day real.0.2.0, omega (arith, last, days)),
      let hour = le_pos m.hour 23 real.1.0.1 in omega arith,
      let minute = le_pos m.minute 59 real.1.1.1 in omega arith,
      let second = le_pos m.second 59 real.1.2.1 in omega arith,
    )

-- ---- its moment

-- nanoseconds since 1970 began
abbrev nanos_in : Moment → ℤ
nanos_in m = days_from_civil (pos m.year) m.month m.day *ℤ pos 86_400_000_000_000 +ℤ pos ((m.hour * 3600 + m.minute * 60 + m.second) * 1_000_000_000)

no_offset : (n : ℤ) → n ≡ n -ℤ pos 0 *ℤ pos 60_000_000_000
no_offset n = omega (arith, signed_arith)

whole_seconds : (days : ℤ) (n k : ℕ) → n ≡ k → days *ℤ pos 86_400_000_000_000 +ℤ pos n ≡ days *ℤ pos 86_400_000_000_000 +ℤ pos (k + 0)
whole_seconds days n k e = omega (arith, ints, signed_arith)

moment_is : (year : ℕ) (m : Moment) → IsRealMoment m → IsMoment m.year (fields_of year m) (nanos_in m)
moment_is year m real = record {
  clock = record { date = real.0; time = real.1 };
  value = whole_seconds (days_from_civil (pos m.year) m.month m.day) ((m.hour * 3600 + m.minute * 60 + m.second) * 1_000_000_000) _ refl ∙ no_offset (local_nanos m.year (fields_of year m));
}

pub year_of : (y : ℤ) → pos 1950 ≤ℤ y → y ≡ pos (unsigned_abs y)
year_of (pos n) first = refl
year_of (negsuc n) first = absurd (omega (arith, ints))

nanos_are : (t : CivilTime) → IsTimeField t → nanoseconds_of t ≡ nanos_in (moment_in t)
nanos_are t range =
    ap (λ y. days_from_civil y t.month t.day *ℤ pos 86_400_000_000_000 +ℤ pos ((t.hour * 3600 + t.minute * 60 + t.second) * 1_000_000_000 + t.nanosecond)) (year_of t.year range.first)
    ∙ ap (λ n. days_from_civil (pos (unsigned_abs t.year)) t.month t.day *ℤ pos 86_400_000_000_000 +ℤ pos n)
    (let none = range.whole in let same : (t.hour * 3600 + t.minute * 60 + t.second) * 1_000_000_000 + t.nanosecond ≡ (t.hour * 3600 + t.minute * 60 + t.second) * 1_000_000_000 = omega (arith, none) in same)

-- ---- the two forms

years : (y : ℕ) → 1950 ≤ y → y < 2050 → full_year (y % 100) ≡ y
years y first last = grind (arith, nat_tests)

utc_moment : (m : Moment) → IsRealMoment m → 1950 ≤ m.year → m.year < 2050 → UtcMoment (two_digits (m.year % 100) ++ after_year m ++ 90 ∷ []) (nanos_in m)
utc_moment m real first last =
    let yy = m.year % 100 in
    let fields = fields_of yy m in
    let spelled : two_digits yy ++ after_year m ++ 90 ∷ [] ≡ utc_octets fields =
    let w = moment_writable m real in
    rw (digit yy (omega arith), digit m.month w.month, digit m.day w.day, digit m.hour w.hour, digit m.minute w.minute, digit m.second w.second) refl in
    record {
      fields = fields;
      spelled = subst (λ s. UtcMeans s fields) (sym spelled) (utc_means fields (record { year = omega arith; clock = real_clock m real yy; whole = refl; zone = tt }));
      moment = subst (λ y. IsMoment y fields (nanos_in m)) (sym (years m.year first last)) (moment_is yy m real);
    }

general_moment : (m : Moment) → IsRealMoment m → m.year < 10000 → GeneralMoment (two_digits (m.year / 100) ++ two_digits (m.year % 100) ++ after_year m ++ 90 ∷ []) (nanos_in m)
general_moment m real last =
    let fields = fields_of m.year m in
    let spelled : two_digits (m.year / 100) ++ two_digits (m.year % 100) ++ after_year m ++ 90 ∷ [] ≡ generalized_octets fields =
    let w = moment_writable m real in
    let tens : m.year % 100 / 10 ≡ m.year / 10 % 10 = omega arith in
    let ones : m.year % 100 % 10 ≡ m.year % 10 = omega arith in
    rw (digit (m.year / 100) (omega (arith, last)), tens, ones, digit m.month w.month, digit m.day w.day, digit m.hour w.hour, digit m.minute w.minute, digit m.second w.second) refl in
    record {
      fields = fields;
      spelled = record { in_form = record { fields = record { year = last; clock = real_clock m real m.year; fraction = tt; zone = tt }; universal = refl }; spelled = spelled };
      moment = moment_is m.year m real;
    }

early : (t : CivilTime) → unsigned_abs t.year < 2050 → time_octets t ≡ primitive_octets 23 (two_digits (unsigned_abs t.year % 100) ++ after_year (moment_in t) ++ 90 ∷ [])
early t small = let test : nat_lt (unsigned_abs t.year) 2050 ≡ true = grind (arith, nat_tests) in rw test refl

late : (t : CivilTime) → 2050 ≤ unsigned_abs t.year →
    time_octets t ≡ primitive_octets 24 (two_digits (unsigned_abs t.year / 100) ++ two_digits (unsigned_abs t.year % 100) ++ after_year (moment_in t) ++ 90 ∷ [])
late t large = let test : nat_lt (unsigned_abs t.year) 2050 ≡ false = grind (arith, nat_tests) in rw test refl

years_in : (y : ℤ) → pos 1950 ≤ℤ y → y ≤ℤ pos 9999 → (1950 ≤ unsigned_abs y) × (unsigned_abs y ≤ 9999)
years_in (pos n) first last = (omega (arith, ints), omega (arith, ints))
years_in (negsuc n) first last = absurd (omega (arith, ints))

time_by : (b : Bool) (t : CivilTime) (rest : List ℕ) → nat_lt (unsigned_abs t.year) 2050 ≡ b → IsTimeField t → ASN1Time (time_octets t ++ rest) (lenient_time t) rest
time_by true t rest test range =
    let m = moment_in t in
    let s = two_digits (m.year % 100) ++ after_year m ++ 90 ∷ [] in
    let e : Element = record { class = 0; constructed = false; tag = 23; content = s } in
    let first = years_in t.year range.first range.last in
    let small : unsigned_abs t.year < 2050 = grind (arith, nat_tests) in
    let moment : UtcMoment s (nanoseconds_of t) = subst (UtcMoment s) (sym (nanos_are t range)) (utc_moment m range.real first.0 small) in
    subst (λ z. ASN1Time (z ++ rest) (lenient_time t) rest) (sym (early t small))
    (one_small IsTime e (lenient_time t) rest (lit< tt) (lit< tt) (lit< tt) (utc_time (record { leaf = record { tag_is = refl; primitive = refl }; meant = moment }) (ap not test)))
time_by false t rest test range =
    let m = moment_in t in
    let s = two_digits (m.year / 100) ++ two_digits (m.year % 100) ++ after_year m ++ 90 ∷ [] in
    let e : Element = record { class = 0; constructed = false; tag = 24; content = s } in
    let years = years_in t.year range.first range.last in
    let large : 2050 ≤ unsigned_abs t.year = grind (arith, nat_tests) in
    let moment : GeneralMoment s (nanoseconds_of t) = subst (GeneralMoment s) (sym (nanos_are t range)) (general_moment m range.real (omega (arith, years.1))) in
    subst (λ z. ASN1Time (z ++ rest) (lenient_time t) rest) (sym (late t large))
    (one_small IsTime e (lenient_time t) rest (lit< tt) (lit< tt) (lit< tt) (general_time (record { leaf = record { tag_is = refl; primitive = refl }; meant = moment }) (ap not test)))

pub time_is : (t : CivilTime) (rest : List ℕ) → IsTimeField t → ASN1Time (time_octets t ++ rest) (lenient_time t) rest
time_is t rest range = time_by (nat_lt (unsigned_abs t.year) 2050) t rest refl range

pub validity_is : (a b : CivilTime) (rest : List ℕ) → IsTimeField a → IsTimeField b → length (validity_octets a b) < 2 ^ 64 → Validity (validity_octets a b ++ rest) (lenient_period a b) rest
validity_is a b rest first second small =
    let last = time_octets b in
    let e : Element = record { class = 0; constructed = true; tag = 16; content = time_octets a ++ last } in
    one_strict (Holds 16 ValidityParts) e (lenient_period a b) rest (lit< tt) (lit< tt) small (
      [],
      record {
        tag = refl;
        inner = record {
          after_start = last;
          not_before = time_is a last first;
          not_after = subst (λ z. ASN1Time z (lenient_time b) []) (append-nil last) (time_is b [] second);
        };
      },
    )

-- ---- one date and time of day

-- a time in range, as the calendar's
date_in : (t : CivilTime) → IsTimeField t → Date
date_in t range =
    let month = range.real.0.1 in
    let day = range.real.0.2 in
    record {
      year = pos (unsigned_abs t.year);
      month = t.month;
      day = t.day;
      year_in = range.real.0.0;
      month_in = (le_pos 1 t.month month.0, le_pos t.month 12 month.1);
      day_in = (le_pos 1 t.day day.0, le_pos t.day (days_in_month (pos (unsigned_abs t.year)) t.month) day.1);
    }

clock_in : (t : CivilTime) → IsTimeField t → Clock
clock_in t range =
    let hour = le_pos t.hour 23 range.real.1.0.1 in
    let minute = le_pos t.minute 59 range.real.1.1.1 in
    let second = le_pos t.second 59 range.real.1.2.1 in
    record {
      hour = t.hour;
      minute = t.minute;
      second = t.second;
      subsec_nanosecond = t.nanosecond;
      hour_in = omega arith;
      minute_in = omega arith;
      second_in = omega arith;
      subsec_in = let none = range.whole in omega arith;
    }

dated : (t : CivilTime) → IsTimeField t → DateTime
dated t range = record { date = date_in t range; time = clock_in t range }

-- equal parts are equal times
abbrev of_parts : ℤ → ℕ → ℕ → ℕ → ℕ → ℕ → ℕ → CivilTime
of_parts year month day hour minute second nanosecond =
    record { year = year; month = month; day = day; hour = hour; minute = minute; second = second; nanosecond = nanosecond }

same_time : (a b : CivilTime) → a.year ≡ b.year → a.month ≡ b.month → a.day ≡ b.day → a.hour ≡ b.hour → a.minute ≡ b.minute → a.second ≡ b.second → a.nanosecond ≡ b.nanosecond → a ≡ b
same_time a b year month day hour minute second nanosecond =
    ap (λ z. of_parts z a.month a.day a.hour a.minute a.second a.nanosecond) year
    ∙ ap (λ z. of_parts b.year z a.day a.hour a.minute a.second a.nanosecond) month
    ∙ ap (λ z. of_parts b.year b.month z a.hour a.minute a.second a.nanosecond) day
    ∙ ap (λ z. of_parts b.year b.month b.day z a.minute a.second a.nanosecond) hour
    ∙ ap (λ z. of_parts b.year b.month b.day b.hour z a.second a.nanosecond) minute
    ∙ ap (λ z. of_parts b.year b.month b.day b.hour b.minute z a.nanosecond) second
    ∙ ap (λ z. of_parts b.year b.month b.day b.hour b.minute b.second z) nanosecond

pub one_time_is : (t : CivilTime) (moment : DateTime) → IsTimeField t → civil_nanos moment ≡ nanoseconds_of t → time_view moment ≡ t
unfolding date_in clock_in dated
one_time_is t moment range same =
    let whole = dated t range in
    let years = year_of t.year range.first in
    let mine : civil_nanos whole ≡ nanoseconds_of t =
    civil_nanos-parts whole ∙ ap (λ y. days_from_civil y t.month t.day *ℤ pos 86_400_000_000_000 +ℤ pos ((t.hour * 3600 + t.minute * 60 + t.second) * 1_000_000_000 + t.nanosecond)) (sym years) in
    let both = civil_nanos_injective moment whole (same ∙ sym mine) in
    let date = epoch_day_injective moment.date whole.date both.0 in
    let time = time_nanos_injective moment.time whole.time both.1 in
    same_time (time_view moment) t (date.0 ∙ sym years) date.1 date.2 time.0 time.1 time.2 time.3
