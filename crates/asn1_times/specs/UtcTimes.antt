-- UTCTime: YYMMDDHHMM, SS or none, and Z or an offset +hhmm or -hhmm (X.680, 47.3).
use Rattle.std.specs.Prelude.{◌≡◌, ◌<◌, ℕ, None, List}
use Rattle.asn1_times.specs.Fields.{two_digits, time_octets, SpellsTime, IsClock, IsToldZone}
use Rattle.asn1_times.specs.declared.datetime.ASN1DateTime.{ASN1DateTime}

-- fields that a UTCTime can have
pub record IsUtcTime (t : ASN1DateTime) : Type 0 where
  pub year : t.year < 100
  pub clock : IsClock t
  pub whole : t.millisecond ≡ None
  pub zone : IsToldZone t.tz

-- the octets that are written
abbrev pub utc_octets : ASN1DateTime → List ℕ
utc_octets t = time_octets (two_digits t.year) t

-- what octets mean: seconds that aren't there are 0
pub record UtcMeans (content : List ℕ) (t : ASN1DateTime) : Type 0 where
  pub fields : IsUtcTime t
  pub spelled : SpellsTime (two_digits t.year) content t
