-- The fields of dates and times, and the octets that write them (X.680, 46.3 and 47.3; X.690, 11.7
-- and 11.8).
use Rattle.std.specs.Prelude.{◌≡◌, ◌⊎◌, ◌+◌, ◌/◌, ◌%◌, ◌<◌, ◌==◌, ℕ, ℤ, pos, negsuc, ◌≤ℤ◌, unsigned_abs, if◌then◌else◌, Option, Some, None, List, [], ◌∷◌, ◌++◌}
use Rattle.std.specs.Int.{IsInRange}
use Rattle.asn1_times.specs.declared.datetime.ASN1DateTime.{ASN1DateTime}
use Rattle.asn1_times.specs.declared.datetime.ASN1TimeZone.{ASN1TimeZone}
use Rattle.asn1_times.specs.declared.datetime.ASN1TimeZone.TheVariants as zones

-- the last two digits of a number
abbrev pub two_digits : ℕ → List ℕ
two_digits n = (48 + n / 10 % 10) ∷ (48 + n % 10) ∷ []

-- MMDDHHMM
abbrev pub minute_octets : ASN1DateTime → List ℕ
minute_octets t = two_digits t.month ++ two_digits t.day ++ two_digits t.hour ++ two_digits t.minute

-- the digits of thousandths, but last ones that are 0
abbrev pub thousandths_octets : ℕ → List ℕ
thousandths_octets n = if n % 100 == 0 then (48 + n / 100 % 10) ∷ [] else (if n % 10 == 0 then two_digits (n / 10) else (48 + n / 100 % 10) ∷ two_digits n)

-- a point and those digits, or nothing
abbrev pub fraction_octets : Option ℕ → List ℕ
fraction_octets None = []
fraction_octets (Some n) = 46 ∷ thousandths_octets n

-- minus if the hours or the minutes are negative, else plus
abbrev pub sign_octet : ℤ → ℤ → ℕ
sign_octet (negsuc h) m = 45
sign_octet (pos h) (negsuc m) = 45
sign_octet (pos h) (pos m) = 43

-- nothing, Z, or a sign and HHMM
abbrev pub zone_octets : ASN1TimeZone → List ℕ
zone_octets zones.Undefined = []
zone_octets zones.Z = 90 ∷ []
zone_octets (zones.Offset h m) = sign_octet h m ∷ two_digits (unsigned_abs h) ++ two_digits (unsigned_abs m)

-- a time after the digits of its year, as it is written
abbrev pub time_octets : List ℕ → ASN1DateTime → List ℕ
time_octets year t = year ++ minute_octets t ++ two_digits t.second ++ fraction_octets t.millisecond ++ zone_octets t.tz

-- seconds and their fraction, or nothing if they are 0 and it isn't there
abbrev pub SpellsSeconds : List ℕ → ℕ → Option ℕ → Type 0
SpellsSeconds s second fraction = (s ≡ two_digits second ++ fraction_octets fraction) ⊎ ((s ≡ []) × (second ≡ 0) × (fraction ≡ None))

-- a zone as it is written, or -0000, which is the offset 0 too
abbrev pub SpellsZone : List ℕ → ASN1TimeZone → Type 0
SpellsZone s z = (s ≡ zone_octets z) ⊎ ((s ≡ 45 ∷ 48 ∷ 48 ∷ 48 ∷ 48 ∷ []) × (z ≡ zones.Offset (pos 0) (pos 0)))

-- octets that spell a time after the digits of its year
pub record SpellsTime (year content : List ℕ) (t : ASN1DateTime) : Type 0 where
  pub seconds : List ℕ
  pub zone : List ℕ
  pub seconds_spelled : SpellsSeconds seconds t.second t.millisecond
  pub zone_spelled : SpellsZone zone t.tz
  pub octets : content ≡ year ++ minute_octets t ++ seconds ++ zone

-- hours to 23 and minutes to 59; minutes are negative only if the hours are 0
abbrev pub IsOffset : ℤ → ℤ → Type 0
IsOffset h m = (unsigned_abs h < 24) × (unsigned_abs m < 60) × ((pos 0 ≤ℤ m) ⊎ (h ≡ pos 0))

-- an offset is in range
abbrev pub IsZone : ASN1TimeZone → Type 0
IsZone zones.Undefined = Unit {0}
IsZone zones.Z = Unit {0}
IsZone (zones.Offset h m) = IsOffset h m

-- a zone is given, and is in range
abbrev pub IsToldZone : ASN1TimeZone → Type 0
IsToldZone zones.Undefined = ⊥
IsToldZone zones.Z = Unit {0}
IsToldZone (zones.Offset h m) = IsOffset h m

-- a fraction isn't 0, and is less than a second
abbrev pub IsFraction : Option ℕ → Type 0
IsFraction None = Unit {0}
IsFraction (Some n) = IsInRange 1 999 n

-- the fields from the month to the second are in range; whether the month has the day isn't asked
abbrev pub IsClock : ASN1DateTime → Type 0
IsClock t = IsInRange 1 12 t.month × IsInRange 1 31 t.day × (t.hour < 24) × (t.minute < 60) × (t.second < 60)
