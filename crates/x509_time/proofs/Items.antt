-- Octets written out by hand are what the relations say.
use Rattle.std.proofs.Common.{◌≡◌, refl, ℕ, List, [], ◌∷◌, ◌++◌, false, true, None, lit<, lit≤, arith}
use Rattle.jiff_core.specs.Calendar.{days_from_civil, day_count, days_of_years, days_of_months}
use Rattle.asn1_times.specs.declared.datetime.ASN1DateTime.{ASN1DateTime}
use Rattle.asn1_times.specs.declared.datetime.ASN1TimeZone.TheVariants as zones
use Rattle.asn1_times.specs.Moments.{HasClock}
use Rattle.asn1_times.specs.UtcTimes.{IsUtcTime}
use Rattle.asn1_times.specs.UtcLaws.{utc_means}
use Rattle.x509_core.specs.Grammar.{Holds}
use Rattle.x509_core.proofs.Items.{one}
use Rattle.x509_time.specs.Examples.{start, start_octets, end, end_octets, period, period_octets}
use Rattle.x509_time.specs.Times.{IsMoment, IsTime, utc_time, ASN1Time, ValidityParts, Validity}

-- the first of January of a year of two digits, at midnight
abbrev fields : ℕ → ASN1DateTime
fields yy = record { year = yy; month = 1; day = 1; hour = 0; minute = 0; second = 0; millisecond = None; tz = zones.Z }

fields_25 : IsUtcTime (fields 25)
fields_25 = record { year = lit< tt; clock = ((lit≤ tt, lit≤ tt), (lit≤ tt, lit≤ tt), lit< tt, lit< tt, lit< tt); whole = refl; zone = tt }

fields_26 : IsUtcTime (fields 26)
fields_26 = record { year = lit< tt; clock = ((lit≤ tt, lit≤ tt), (lit≤ tt, lit≤ tt), lit< tt, lit< tt, lit< tt); whole = refl; zone = tt }

clock_25 : HasClock 2025 (fields 25)
clock_25 = record {
  date = ((omega arith, omega arith), (omega arith, omega arith), (omega arith, omega arith));
  time = ((omega arith, omega arith), (omega arith, omega arith), (omega arith, omega arith), (omega arith, omega arith));
}

clock_26 : HasClock 2026 (fields 26)
clock_26 = record {
  date = ((omega arith, omega arith), (omega arith, omega arith), (omega arith, omega arith));
  time = ((omega arith, omega arith), (omega arith, omega arith), (omega arith, omega arith), (omega arith, omega arith));
}

moment_25 : IsMoment 2025 (fields 25) start.nanoseconds
unfolding days_from_civil day_count days_of_years days_of_months
moment_25 = record { clock = clock_25; value = refl }

moment_26 : IsMoment 2026 (fields 26) end.nanoseconds
unfolding days_from_civil day_count days_of_years days_of_months
moment_26 = record { clock = clock_26; value = refl }

pub start_is : (rest : List ℕ) → ASN1Time (start_octets ++ rest) start rest
start_is rest = one IsTime 0 false 23 (0x32 ∷ 0x35 ∷ 0x30 ∷ 0x31 ∷ 0x30 ∷ 0x31 ∷ 0x30 ∷ 0x30 ∷ 0x30 ∷ 0x30 ∷ 0x30 ∷ 0x30 ∷ 0x5a ∷ []) start rest (lit< tt) (lit< tt) (lit< tt)
    (utc_time (record { leaf = record { tag_is = refl; primitive = refl }; meant = record { fields = fields 25; spelled = utc_means (fields 25) fields_25; moment = moment_25 } }) refl)

pub end_is : (rest : List ℕ) → ASN1Time (end_octets ++ rest) end rest
end_is rest = one IsTime 0 false 23 (0x32 ∷ 0x36 ∷ 0x30 ∷ 0x31 ∷ 0x30 ∷ 0x31 ∷ 0x30 ∷ 0x30 ∷ 0x30 ∷ 0x30 ∷ 0x30 ∷ 0x30 ∷ 0x5a ∷ []) end rest (lit< tt) (lit< tt) (lit< tt)
    (utc_time (record { leaf = record { tag_is = refl; primitive = refl }; meant = record { fields = fields 26; spelled = utc_means (fields 26) fields_26; moment = moment_26 } }) refl)

pub period_is : (rest : List ℕ) → Validity (period_octets ++ rest) period rest
period_is rest = one (Holds 16 ValidityParts) 0 true 16 (start_octets ++ end_octets) period rest (lit< tt) (lit< tt) (lit< tt) (
  [],
  record {
    tag = refl;
    inner = record { after_start = end_octets; not_before = start_is end_octets; not_after = end_is [] };
  },
)
