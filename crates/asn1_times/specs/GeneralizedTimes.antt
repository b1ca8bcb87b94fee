-- GeneralizedTime (X.680, 46.3; X.690, 11.7): YYYYMMDDHHMM, then SS and a fraction or none, or
-- nothing, then a zone or none. By DER the seconds are there, and the zone is Z.
use Rattle.std.specs.Prelude.{◌≡◌, ◌/◌, ◌<◌, ◌≤◌, ℕ, List, [], ◌∷◌, ◌++◌, length}
use Rattle.asn1_times.specs.Fields.{two_digits, time_octets, SpellsTime, IsClock, IsFraction, IsZone}
use Rattle.asn1_times.specs.declared.datetime.ASN1DateTime.{ASN1DateTime}
use Rattle.asn1_times.specs.declared.datetime.ASN1TimeZone.TheVariants as zones

-- the last four digits of a number
abbrev pub four_digits : ℕ → List ℕ
four_digits n = two_digits (n / 100) ++ two_digits n

-- fields that a GeneralizedTime can have
pub record HasFields (t : ASN1DateTime) : Type 0 where
  pub year : t.year < 10000
  pub clock : IsClock t
  pub fraction : IsFraction t.millisecond
  pub zone : IsZone t.tz

-- fields that a GeneralizedTime of DER can have
pub record IsGeneralizedTime (t : ASN1DateTime) : Type 0 where
  pub fields : HasFields t
  pub universal : t.tz ≡ zones.Z

-- the octets that are written
abbrev pub generalized_octets : ASN1DateTime → List ℕ
generalized_octets t = time_octets (four_digits t.year) t

-- what octets mean: seconds that aren't there are 0
pub record GeneralizedMeans (content : List ℕ) (t : ASN1DateTime) : Type 0 where
  pub fields : HasFields t
  pub spelled : SpellsTime (four_digits t.year) content t

-- Z ends the octets, and YYYYMMDDHHMMSS has room before it
pub record HasSecondsAndZ (content : List ℕ) : Type 0 where
  pub front : List ℕ
  pub seconds : 14 ≤ length front
  pub octets : content ≡ front ++ 90 ∷ []
