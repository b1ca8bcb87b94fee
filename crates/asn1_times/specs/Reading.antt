-- Times read step by step. The meaning is in `Fields`, `UtcTimes` and `GeneralizedTimes`; laws show
-- that these undo it.
use Rattle.std.specs.Prelude.{ℕ, pos, neg_ℤ, ◌+◌, ◌-◌, ◌*◌, ◌==◌, ◌&&◌, if◌then◌else◌, Option, Some, None, option_and_then, List, [], ◌∷◌}
use Rattle.std.specs.Char.{is_ascii_digit}
use Rattle.asn1_times.specs.declared.datetime.ASN1DateTime.{ASN1DateTime}
use Rattle.asn1_times.specs.declared.datetime.ASN1TimeZone.{ASN1TimeZone}
use Rattle.asn1_times.specs.declared.datetime.ASN1TimeZone.TheVariants as zones

infixl 10 ◌>>=◌
abbrev pub ◌>>=◌ : {A B : Type 0} → Option A → (A → Option B) → Option B
o >>= f = option_and_then f o

-- a digit at the front
unfoldable pub digit_at : List ℕ → Option (ℕ × List ℕ)
digit_at [] = None
digit_at (c ∷ rest) = if is_ascii_digit c then Some (c - 48, rest) else None

-- two digits at the front
unfoldable pub pair_at : List ℕ → Option (ℕ × List ℕ)
pair_at [] = None
pair_at (a ∷ []) = None
pair_at (a ∷ b ∷ rest) = if is_ascii_digit a && is_ascii_digit b then Some ((a - 48) * 10 + (b - 48), rest) else None

-- the number and the octets after it, unless its last digit is 0
abbrev pub ends_at : ℕ → ℕ × List ℕ → Option (ℕ × List ℕ)
ends_at digit p = if digit == 0 then None else Some p

abbrev pub third_at : Option (ℕ × List ℕ) → ℕ × List ℕ → ℕ × List ℕ → Option (ℕ × List ℕ)
third_at None a b = ends_at b.0 (a.0 * 100 + b.0 * 10, b.1)
third_at (Some c) a b = ends_at c.0 (a.0 * 100 + b.0 * 10 + c.0, c.1)

abbrev pub second_at : Option (ℕ × List ℕ) → ℕ × List ℕ → Option (ℕ × List ℕ)
second_at None a = ends_at a.0 (a.0 * 100, a.1)
second_at (Some b) a = third_at (digit_at b.1) a b

-- one to three digits at the front, the last not 0, as thousandths
unfoldable pub milliseconds_at : List ℕ → Option (ℕ × List ℕ)
milliseconds_at i = do
  a ← digit_at i
  second_at (digit_at a.1) a

abbrev pub some_fraction : ℕ × List ℕ → Option (Option ℕ × List ℕ)
some_fraction p = Some (Some p.0, p.1)

-- a point and its fraction, or none
unfoldable pub fraction_at : List ℕ → Option (Option ℕ × List ℕ)
fraction_at [] = Some (None, [])
fraction_at (c ∷ rest) = if c == 46 then milliseconds_at rest >>= some_fraction else Some (None, c ∷ rest)

abbrev pub clock_by : Option (ℕ × List ℕ) → List ℕ → Option (ℕ × Option ℕ × List ℕ)
clock_by None i = Some (0, None, i)
clock_by (Some p) i = fraction_at p.1 >>= (λ f. Some (p.0, f.0, f.1))

-- seconds and a fraction of one, or 0 and none
unfoldable pub clock_at : List ℕ → Option (ℕ × Option ℕ × List ℕ)
clock_at i = clock_by (pair_at i) i

-- the offset of a clock that is late by so much
abbrev pub behind : ℕ → ℕ → ASN1TimeZone
behind h m = if h == 0 then zones.Offset (pos 0) (neg_ℤ (pos m)) else zones.Offset (neg_ℤ (pos h)) (pos m)

abbrev pub signed_at : ℕ → ℕ → ℕ → List ℕ → Option ASN1TimeZone
signed_at sign h m [] = if sign == 43 then Some (zones.Offset (pos h) (pos m)) else (if sign == 45 then Some (behind h m) else None)
signed_at sign h m (c ∷ rest) = None

-- HHMM after a sign, to the end
unfoldable pub offset_at : ℕ → List ℕ → Option ASN1TimeZone
offset_at sign i = do
  hour ← pair_at i
  minute ← pair_at hour.1
  signed_at sign hour.0 minute.0 minute.1

-- a zone, to the end
unfoldable pub zone_at : List ℕ → Option ASN1TimeZone
zone_at [] = Some zones.Undefined
zone_at (c ∷ []) = if c == 90 then Some zones.Z else None
zone_at (c ∷ d ∷ rest) = offset_at c (d ∷ rest)

-- a time after its year, to the end
unfoldable pub tail_at : ℕ → List ℕ → Option ASN1DateTime
tail_at year i = do
  month ← pair_at i
  day ← pair_at month.1
  hour ← pair_at day.1
  minute ← pair_at hour.1
  clock ← clock_at minute.1
  zone ← zone_at clock.2
  Some (record { year = year; month = month.0; day = day.0; hour = hour.0; minute = minute.0; second = clock.0; millisecond = clock.1; tz = zone })

-- a UTCTime's fields
unfoldable pub utc_at : List ℕ → Option ASN1DateTime
utc_at i = do
  year ← pair_at i
  tail_at year.0 year.1

-- a GeneralizedTime's fields
unfoldable pub generalized_at : List ℕ → Option ASN1DateTime
generalized_at i = do
  century ← pair_at i
  year ← pair_at century.1
  tail_at (century.0 * 100 + year.0) year.1
