-- What octets are a time or a validity, read leniently (RFC 5280, 4.1.2.5), and the moment that a time stands for.
use Rattle.std.specs.Prelude.{◌≡◌, ℕ, ℤ, pos, ◌-ℤ◌, ◌*ℤ◌, Bool, true, false, List}
use Rattle.asn1_any.specs.Cutting.{Piece}
use Rattle.asn1_times.specs.UtcTimes.{UtcMeans}
use Rattle.asn1_times.specs.GeneralizedTimes.{IsGeneralizedTime, generalized_octets}
use Rattle.asn1_times.specs.Moments.{HasClock, local_nanos, zone_minutes, full_year}
use Rattle.asn1_times.specs.declared.datetime.ASN1DateTime.{ASN1DateTime}
use Rattle.x509_core.specs.Grammar.{Grammar, One, Box}
use Rattle.x509_core.specs.Leaves.{Leaf}

-- Time (RFC 5280, 4.1.2.5): nanoseconds since 1970 began in universal time, and whether it is a GeneralizedTime
pub record Time : Type 0 where
  pub nanoseconds : ℤ
  pub generalized : Bool

-- Validity (RFC 5280, 4.1.2.5)
pub record Period : Type 0 where
  pub not_before : Time
  pub not_after : Time

-- the calendar has the date in this year, a clock shows the time, and this is the moment: any offset is taken off
pub record IsMoment (year : ℕ) (t : ASN1DateTime) (nanoseconds : ℤ) : Type 0 where
  pub clock : HasClock year t
  pub value : nanoseconds ≡ local_nanos year t -ℤ zone_minutes t.tz *ℤ pos 60_000_000_000

-- UTCTime (X.680, 47.3): YYMMDDHHMM, SS or none, Z or an offset. YY from 50 on is 19YY, else 20YY (RFC 5280, 4.1.2.5.1).
pub record UtcMoment (content : List ℕ) (nanoseconds : ℤ) : Type 0 where
  pub fields : ASN1DateTime
  pub spelled : UtcMeans content fields
  pub moment : IsMoment (full_year fields.year) fields nanoseconds

-- GeneralizedTime of DER (X.680, 46.3; X.690, 11.7): YYYYMMDDHHMMSS, a fraction of at most 3 digits or none, Z
pub record GeneralContent (content : List ℕ) (fields : ASN1DateTime) : Type 0 where
  pub in_form : IsGeneralizedTime fields
  pub spelled : content ≡ generalized_octets fields

pub record GeneralMoment (content : List ℕ) (nanoseconds : ℤ) : Type 0 where
  pub fields : ASN1DateTime
  pub spelled : GeneralContent content fields
  pub moment : IsMoment fields.year fields nanoseconds

-- Time ::= CHOICE { utcTime UTCTime, generalTime GeneralizedTime } (RFC 5280, 4.1). Primitive; the tag number is compared,
-- the class isn't.
pub data IsTime (piece : Piece) (v : Time) : Type 0 where
  utc_time : Leaf 23 UtcMoment piece v.nanoseconds → v.generalized ≡ false → IsTime piece v
  general_time : Leaf 24 GeneralMoment piece v.nanoseconds → v.generalized ≡ true → IsTime piece v

abbrev pub ASN1Time : Grammar Time
ASN1Time = One IsTime

-- Validity ::= SEQUENCE { notBefore Time, notAfter Time } (RFC 5280, 4.1)
pub record ValidityParts (octets : List ℕ) (v : Period) (rest : List ℕ) : Type 0 where
  pub after_start : List ℕ
  pub not_before : ASN1Time octets v.not_before after_start
  pub not_after : ASN1Time after_start v.not_after rest

abbrev pub Validity : Grammar Period
Validity = Box 16 ValidityParts
