-- That the functions of `Readers` find what `UtcTimes`, `GeneralizedTimes` and `Moments` say, and
-- nothing else.
use Rattle.std.proofs.Common.{◌≡◌, ◌∙◌, ◌↔◌, ◌⊎◌, sym, ap, refl, subst, inl, inr, arith, ◌<◌, ◌≤◌, ◌+◌, ◌-◌, ◌*◌, ◌&&◌, ℕ, suc, ℤ, pos, negsuc, ◌≤ℤ◌, unsigned_abs, int_le, Bool, true, false, nat_lt, nat_le, Option, Some, None, is_none, Result, Ok, Err, is_ok, List, [], ◌∷◌, ◌++◌, length, take, length-append, length-take, slice_index, Decides}
use Rattle.std.specs.Int.{IsInRange}
use Rattle.std.proofs.lemmas.Bool.{le-leb, leb-true, eqb-true, eq-eqb, ne_eqb, lt-leb, and_parts, false_from_ne_true}
use Rattle.std.proofs.lemmas.Bool.Decides.{Decides-and, Decides-ltb}
use Rattle.std.proofs.lemmas.Int.{ints}
use Rattle.std.proofs.lemmas.List.{take_more, take_all, nil_from_length}
use Rattle.std.proofs.lemmas.Option.{option_and_then_some, cond_some}
use Rattle.jiff.specs.Words.{civil_nanos, IsCivilNanos, days_in_month}
use Rattle.jiff_core.proofs.DateTimeLemmas.{civil_nanos_range}
use Rattle.jiff_core.specs.declared.civil.datetime.DateTime.{DateTime}
use Rattle.asn1_core.specs.declared.error.Error.{Error}
use Rattle.asn1_core.specs.declared.error.Error.TheVariants as errors
use Rattle.asn1_core.specs.declared.error.DerConstraint.TheVariants as constraints
use Rattle.asn1_times.specs.Fields.{IsOffset, IsZone, IsToldZone, IsFraction, IsClock}
use Rattle.asn1_times.specs.UtcTimes.{IsUtcTime, UtcMeans}
use Rattle.asn1_times.specs.GeneralizedTimes.{HasFields, GeneralizedMeans, HasSecondsAndZ}
use Rattle.asn1_times.specs.Reading.{utc_at, generalized_at}
use Rattle.asn1_times.specs.UtcLaws.{utc_found, utc_only}
use Rattle.asn1_times.specs.GeneralizedLaws.{generalized_found, generalized_only}
use Rattle.asn1_times.specs.Moments.{thousandths, IsClockZone, HasClock, IsMomentOf}
use Rattle.asn1_times.specs.Readers.{is_clock_offset, has_one_sign, is_zone, is_told_zone, is_fraction, is_clock, is_utc_time, has_fields, utc_time_at, generalized_time_at, ends_in_z, der_check, der_generalized_time_at, has_clock, is_clock_zone, universal_nanos, first_nanos, last_nanos, is_civil_nanos, civil_only, moment_at}
use Rattle.asn1_times.specs.declared.datetime.ASN1DateTime.{ASN1DateTime}
use Rattle.asn1_times.specs.declared.datetime.ASN1TimeZone.{ASN1TimeZone}
use Rattle.asn1_times.specs.declared.datetime.ASN1TimeZone.TheVariants as zones

-- tests

Decides-le : (a b : ℕ) → Decides (nat_le a b) (a ≤ b)
Decides-le a b = (leb-true a b, le-leb a b)

range_told : (low high n : ℕ) → Decides (nat_le low n && nat_le n high) (IsInRange low high n)
range_told low high n = Decides-and (nat_le low n) (nat_le n high) (Decides-le low n) (Decides-le n high)

one_sign_told : (h m : ℤ) → Decides (has_one_sign h m) ((pos 0 ≤ℤ m) ⊎ (h ≡ pos 0))
one_sign_told h (pos m) = (λ _. inl (omega (arith, ints)), λ _. refl)
one_sign_told (pos h) (negsuc m) = (λ e. inr (ap pos (eqb-true h 0 e)), λ p. elim p [ inl s ↦ absurd (omega (arith, ints, s)) | inr s ↦ eq-eqb h 0 (omega (arith, ints, s)) ])
one_sign_told (negsuc h) (negsuc m) = (λ e. absurd (omega (arith, eqb-true (suc h) 0 e)), λ p. elim p [ inl s ↦ absurd (omega (arith, ints, s)) | inr s ↦ absurd (omega (arith, ints, s)) ])

clock_offset_told : (h m : ℤ) → Decides (is_clock_offset h m) ((unsigned_abs h < 24) × (unsigned_abs m < 60))
clock_offset_told h m = Decides-and (nat_lt (unsigned_abs h) 24) (nat_lt (unsigned_abs m) 60) (Decides-ltb (unsigned_abs h) 24) (Decides-ltb (unsigned_abs m) 60)

offset_told : (h m : ℤ) → Decides (is_clock_offset h m && has_one_sign h m) (IsOffset h m)
offset_told h m =
    let both = Decides-and (is_clock_offset h m) (has_one_sign h m) (clock_offset_told h m) (one_sign_told h m) in
    (λ e. let p = both.0 e in (p.0.0, p.0.1, p.1), λ p. both.1 ((p.0, p.1), p.2))

zone_told : (z : ASN1TimeZone) → Decides (is_zone z) (IsZone z)
zone_told zones.Undefined = (λ _. tt, λ _. refl)
zone_told zones.Z = (λ _. tt, λ _. refl)
zone_told (zones.Offset h m) = offset_told h m

told_zone_told : (z : ASN1TimeZone) → Decides (is_told_zone z) (IsToldZone z)
told_zone_told zones.Undefined = (λ e. cc, λ p. absurd p)
told_zone_told zones.Z = (λ _. tt, λ _. refl)
told_zone_told (zones.Offset h m) = offset_told h m

fraction_told : (n : Option ℕ) → Decides (is_fraction n) (IsFraction n)
fraction_told None = (λ _. tt, λ _. refl)
fraction_told (Some n) = range_told 1 999 n

none_told : (n : Option ℕ) → Decides (is_none n) (n ≡ None)
none_told None = (λ _. refl, λ _. refl)
none_told (Some n) = (λ e. cc, λ e. cc)

clock_told : (t : ASN1DateTime) → Decides (is_clock t) (IsClock t)
clock_told t =
    let month = nat_le 1 t.month && nat_le t.month 12 in
    let day = nat_le 1 t.day && nat_le t.day 31 in
    let one = Decides-and month day (range_told 1 12 t.month) (range_told 1 31 t.day) in
    let two = Decides-and (month && day) (nat_lt t.hour 24) one (Decides-ltb t.hour 24) in
    let three = Decides-and (month && day && nat_lt t.hour 24) (nat_lt t.minute 60) two (Decides-ltb t.minute 60) in
    let all = Decides-and (month && day && nat_lt t.hour 24 && nat_lt t.minute 60) (nat_lt t.second 60) three (Decides-ltb t.second 60) in (
      λ e. let p = all.0 e in (p.0.0.0.0, p.0.0.0.1, p.0.0.1, p.0.1, p.1),
      λ p. all.1 ((((p.0, p.1), p.2), p.3), p.4),
    )

pub utc_fields_told : (t : ASN1DateTime) → Decides (is_utc_time t) (IsUtcTime t)
utc_fields_told t =
    let one = Decides-and (nat_lt t.year 100) (is_clock t) (Decides-ltb t.year 100) (clock_told t) in
    let two = Decides-and (nat_lt t.year 100 && is_clock t) (is_none t.millisecond) one (none_told t.millisecond) in
    let all = Decides-and (nat_lt t.year 100 && is_clock t && is_none t.millisecond) (is_told_zone t.tz) two (told_zone_told t.tz) in (
      λ e. let p = all.0 e in record { year = p.0.0.0; clock = p.0.0.1; whole = p.0.1; zone = p.1 },
      λ p. all.1 (((p.year, p.clock), p.whole), p.zone),
    )

pub generalized_fields_told : (t : ASN1DateTime) → Decides (has_fields t) (HasFields t)
generalized_fields_told t =
    let one = Decides-and (nat_lt t.year 10000) (is_clock t) (Decides-ltb t.year 10000) (clock_told t) in
    let two = Decides-and (nat_lt t.year 10000 && is_clock t) (is_fraction t.millisecond) one (fraction_told t.millisecond) in
    let all = Decides-and (nat_lt t.year 10000 && is_clock t && is_fraction t.millisecond) (is_zone t.tz) two (zone_told t.tz) in (
      λ e. let p = all.0 e in record { year = p.0.0.0; clock = p.0.0.1; fraction = p.0.1; zone = p.1 },
      λ p. all.1 (((p.year, p.clock), p.fraction), p.zone),
    )

-- content octets

pub utc_time_read : (i : List ℕ) (t : ASN1DateTime) → utc_at i ≡ Some t → IsUtcTime t → utc_time_at i ≡ Some t
unfolding utc_time_at
utc_time_read i t e is = let test = (utc_fields_told t).1 is in rw (e, test) refl

pub utc_time_unread : (i : List ℕ) → utc_at i ≡ None → utc_time_at i ≡ None
unfolding utc_time_at
utc_time_unread i e = rw e refl

pub utc_time_unfit : (i : List ℕ) (t : ASN1DateTime) → utc_at i ≡ Some t → (IsUtcTime t → ⊥) → utc_time_at i ≡ None
unfolding utc_time_at
utc_time_unfit i t e unfit = let test = false_from_ne_true (is_utc_time t) (λ yes. unfit ((utc_fields_told t).0 yes)) in rw (e, test) refl

utc_time_found : (i : List ℕ) (t : ASN1DateTime) → utc_time_at i ≡ Some t → UtcMeans i t
unfolding utc_time_at
utc_time_found i t e =
    option_and_then_some _ (utc_at i) t e (λ u e0 r0.
    let both = cond_some (is_utc_time u) u t r0 in
    utc_found i t (e0 ∙ ap Some both.1) (subst IsUtcTime both.1 ((utc_fields_told u).0 both.0)))

pub utc_time_is : (i : List ℕ) (t : ASN1DateTime) → (utc_time_at i ≡ Some t) ↔ UtcMeans i t
utc_time_is i t = (utc_time_found i t, λ p. utc_time_read i t (utc_only i t p) p.fields)

pub generalized_time_read : (i : List ℕ) (t : ASN1DateTime) → generalized_at i ≡ Some t → HasFields t → generalized_time_at i ≡ Some t
unfolding generalized_time_at
generalized_time_read i t e is = let test = (generalized_fields_told t).1 is in rw (e, test) refl

pub generalized_time_unread : (i : List ℕ) → generalized_at i ≡ None → generalized_time_at i ≡ None
unfolding generalized_time_at
generalized_time_unread i e = rw e refl

pub generalized_time_unfit : (i : List ℕ) (t : ASN1DateTime) → generalized_at i ≡ Some t → (HasFields t → ⊥) → generalized_time_at i ≡ None
unfolding generalized_time_at
generalized_time_unfit i t e unfit = let test = false_from_ne_true (has_fields t) (λ yes. unfit ((generalized_fields_told t).0 yes)) in rw (e, test) refl

generalized_time_found : (i : List ℕ) (t : ASN1DateTime) → generalized_time_at i ≡ Some t → GeneralizedMeans i t
unfolding generalized_time_at
generalized_time_found i t e =
    option_and_then_some _ (generalized_at i) t e (λ u e0 r0.
    let both = cond_some (has_fields u) u t r0 in
    generalized_found i t (e0 ∙ ap Some both.1) (subst HasFields both.1 ((generalized_fields_told u).0 both.0)))

pub generalized_time_is : (i : List ℕ) (t : ASN1DateTime) → (generalized_time_at i ≡ Some t) ↔ GeneralizedMeans i t
generalized_time_is i t = (generalized_time_found i t, λ p. generalized_time_read i t (generalized_only i t p) p.fields)

-- what DER takes of a GeneralizedTime

last_behind : (front : List ℕ) (x : ℕ) → slice_index (front ++ x ∷ []) (length (front ++ x ∷ []) - 1) ≡ x
last_behind [] x = refl
last_behind (y ∷ front) x =
    let size = length-append front (x ∷ []) in
    let at : length (y ∷ front ++ x ∷ []) - 1 ≡ suc (length (front ++ x ∷ []) - 1) = omega arith in
    ap (slice_index (y ∷ front ++ x ∷ [])) at ∙ last_behind front x

last_is : (content front : List ℕ) (x : ℕ) → content ≡ front ++ x ∷ [] → slice_index content (length content - 1) ≡ x
last_is content front x e = ap (λ s. slice_index s (length s - 1)) e ∙ last_behind front x

pub der_check_short : (content front : List ℕ) → content ≡ front ++ 90 ∷ [] → length front < 14 → der_check content ≡ Err (errors.DerConstraintFailed constraints.MissingSeconds)
unfolding der_check
der_check_short content front e short =
    let z : ends_in_z content ≡ true = eq-eqb _ 90 (last_is content front 90 e) in
    let size = ap length e ∙ length-append front (90 ∷ []) in
    let test : nat_le 15 (length content) ≡ false = lt-leb 15 (length content) (omega arith) in
    rw (z, test) refl

pub der_check_other : (content front : List ℕ) (x : ℕ) → content ≡ front ++ x ∷ [] → (x ≡ 90 → ⊥) → der_check content ≡ Err (errors.DerConstraintFailed constraints.MissingTimeZone)
unfolding der_check
der_check_other content front x e other =
    let z : ends_in_z content ≡ false = ne_eqb _ 90 (λ is. other (sym (last_is content front x e) ∙ is)) in
    rw z refl

pub der_check_none : (content : List ℕ) → length content ≡ 0 → der_check content ≡ Err (errors.DerConstraintFailed constraints.MissingTimeZone)
unfolding der_check
der_check_none content e = ap der_check (nil_from_length content e)

-- the octets but the last, and it
parted : (content : List ℕ) → 15 ≤ length content → slice_index content (length content - 1) ≡ 90 → HasSecondsAndZ content
parted content long z =
    let n = length content - 1 in
    let size : n + 1 ≡ length content = omega arith in
    let within : n < length content = omega arith in
    let all = take_all (n + 1) content (omega arith) in
    let cut = take_more content n 0 within in
    record { front = take n content; seconds = simp length-take (omega arith); octets = sym all ∙ cut ∙ ap (λ x. take n content ++ x ∷ []) z }

der_check_found : (content : List ℕ) → der_check content ≡ Ok tt → HasSecondsAndZ content
unfolding der_check
der_check_found content e = by (ends_in_z content) (nat_le 15 (length content)) refl refl
  where
    by : (b c : Bool) → ends_in_z content ≡ b → nat_le 15 (length content) ≡ c → HasSecondsAndZ content
    by true true z long = parted content (leb-true 15 (length content) long) (eqb-true _ 90 z)
    by true false z long = let never = rw (z, long) at e in cc
    by false c z long = let never = rw z at e in cc

pub der_check_only : (content : List ℕ) → HasSecondsAndZ content → der_check content ≡ Ok tt
unfolding der_check
der_check_only content p =
    let z : ends_in_z content ≡ true = ap ends_in_z p.octets ∙ eq-eqb _ 90 (last_behind p.front 90) in
    let size = ap length p.octets ∙ length-append p.front (90 ∷ []) in
    let long : nat_le 15 (length content) ≡ true = le-leb 15 (length content) (omega (arith, size, p.seconds)) in
    rw (z, long) refl

pub der_check_is : (content : List ℕ) → (der_check content ≡ Ok tt) ↔ HasSecondsAndZ content
der_check_is content = (der_check_found content, der_check_only content)

checked : (r : Result (Unit {0}) Error) → Decides (is_ok r) (r ≡ Ok tt)
checked (Ok x) = (λ _. refl, λ _. refl)
checked (Err e) = (λ e. cc, λ e. cc)

pub der_time_is : (content : List ℕ) (t : ASN1DateTime) → (der_generalized_time_at content ≡ Some t) ↔ (HasSecondsAndZ content × GeneralizedMeans content t)
der_time_is content t = (found (is_ok (der_check content)) refl, λ p. let test = (checked (der_check content)).1 (der_check_only content p.0) in rw test ((generalized_time_is content t).1 p.1))
  where
    found : (b : Bool) → is_ok (der_check content) ≡ b → der_generalized_time_at content ≡ Some t → HasSecondsAndZ content × GeneralizedMeans content t
    found true test e = let read = rw test at e in (der_check_found content ((checked (der_check content)).0 test), (generalized_time_is content t).0 read)
    found false test e = let read = rw test at e in cc

-- moments

clock_zone_told : (z : ASN1TimeZone) → Decides (is_clock_zone z) (IsClockZone z)
clock_zone_told zones.Undefined = (λ _. tt, λ _. refl)
clock_zone_told zones.Z = (λ _. tt, λ _. refl)
clock_zone_told (zones.Offset h m) = clock_offset_told h m

-- the calendar and the clock of the fields, as numbers without a sign
abbrev ClockParts : ℕ → ASN1DateTime → Type 0
ClockParts year t =
    (year ≤ 9999) × IsInRange 1 12 t.month × IsInRange 1 (days_in_month (pos year) t.month) t.day
    × (t.hour < 24) × (t.minute < 60) × (t.second < 60) × (thousandths t.millisecond < 1000)

parts_told : (year : ℕ) (t : ASN1DateTime) → Decides (has_clock year t) (ClockParts year t)
parts_told year t =
    let month = nat_le 1 t.month && nat_le t.month 12 in
    let days = days_in_month (pos year) t.month in
    let day = nat_le 1 t.day && nat_le t.day days in
    let one = Decides-and (nat_le year 9999) month (Decides-le year 9999) (range_told 1 12 t.month) in
    let two = Decides-and (nat_le year 9999 && month) day one (range_told 1 days t.day) in
    let three = Decides-and (nat_le year 9999 && month && day) (nat_lt t.hour 24) two (Decides-ltb t.hour 24) in
    let four = Decides-and (nat_le year 9999 && month && day && nat_lt t.hour 24) (nat_lt t.minute 60) three (Decides-ltb t.minute 60) in
    let five = Decides-and (nat_le year 9999 && month && day && nat_lt t.hour 24 && nat_lt t.minute 60) (nat_lt t.second 60) four (Decides-ltb t.second 60) in
    let all = Decides-and (nat_le year 9999 && month && day && nat_lt t.hour 24 && nat_lt t.minute 60 && nat_lt t.second 60)
    (nat_lt (thousandths t.millisecond) 1000) five (Decides-ltb (thousandths t.millisecond) 1000) in (
      λ e. let p = all.0 e in (p.0.0.0.0.0.0, p.0.0.0.0.0.1, p.0.0.0.0.1, p.0.0.0.1, p.0.0.1, p.0.1, p.1),
      λ p. all.1 ((((((p.0, p.1), p.2), p.3), p.4), p.5), p.6),
    )

pos_le : (m n : ℕ) → m ≤ n → pos m ≤ℤ pos n
pos_le m n p = omega (arith, ints)

le_pos : (m n : ℕ) → pos m ≤ℤ pos n → m ≤ n
le_pos m n p = omega (arith, ints)

clock_has : (year : ℕ) (t : ASN1DateTime) → Decides (has_clock year t) (HasClock year t)
clock_has year t =
    let parts = parts_told year t in
    let days = days_in_month (pos year) t.month in (
      λ e.
          let p = parts.0 e in record {
            date = ((omega (arith, ints), pos_le year 9999 p.0), (pos_le 1 t.month p.1.0, pos_le t.month 12 p.1.1), (pos_le 1 t.day p.2.0, pos_le t.day days p.2.1));
            time = (
              (pos_le 0 t.hour (omega arith), pos_le t.hour 23 (omega (arith, p.3))),
              (pos_le 0 t.minute (omega arith), pos_le t.minute 59 (omega (arith, p.4))),
              (pos_le 0 t.second (omega arith), pos_le t.second 59 (omega (arith, p.5))),
              (pos_le 0 _ (omega arith), pos_le (thousandths t.millisecond * 1_000_000) 999_999_999 (omega (arith, p.6))),
            );
          },
      λ h.
          let hour = le_pos t.hour 23 h.time.0.1 in
          let minute = le_pos t.minute 59 h.time.1.1 in
          let second = le_pos t.second 59 h.time.2.1 in
          let fraction = le_pos (thousandths t.millisecond * 1_000_000) 999_999_999 h.time.3.1 in
          parts.1 (
            le_pos year 9999 h.date.0.1,
            (le_pos 1 t.month h.date.1.0, le_pos t.month 12 h.date.1.1),
            (le_pos 1 t.day h.date.2.0, le_pos t.day days h.date.2.1),
            omega arith,
            omega arith,
            omega arith,
            omega arith,
          ),
    )

Decides-int_le : (m n : ℤ) → Decides (int_le m n) (m ≤ℤ n)
Decides-int_le m n = (λ e. grind (arith, ints), λ p. grind (arith, ints))

civil_told : (n : ℤ) → Decides (is_civil_nanos n) (IsCivilNanos n)
civil_told n = Decides-and (int_le first_nanos n) (int_le n last_nanos) (Decides-int_le first_nanos n) (Decides-int_le n last_nanos)

civil_some : (n : ℤ) → IsCivilNanos n → civil_only n ≡ Some n
civil_some n is = let test = (civil_told n).1 is in rw test refl

civil_none : (n : ℤ) → (IsCivilNanos n → ⊥) → civil_only n ≡ None
civil_none n not = let test = false_from_ne_true (is_civil_nanos n) (λ yes. not ((civil_told n).0 yes)) in rw test refl

moment_there : (year : ℕ) (t : ASN1DateTime) → HasClock year t → IsClockZone t.tz → moment_at year t ≡ civil_only (universal_nanos year t)
unfolding moment_at
moment_there year t clock zone =
    let first = (clock_has year t).1 clock in
    let second = (clock_zone_told t.tz).1 zone in
    rw (first, second) refl

-- there is no moment if the clock, the offset or the calendar lacks it
pub moment_none : (year : ℕ) (t : ASN1DateTime) → (HasClock year t → IsClockZone t.tz → IsCivilNanos (universal_nanos year t) → ⊥) → moment_at year t ≡ None
unfolding moment_at
moment_none year t never = by (has_clock year t && is_clock_zone t.tz) refl
  where
    by : (b : Bool) → (has_clock year t && is_clock_zone t.tz) ≡ b → moment_at year t ≡ None
    by true e =
        let tests = and_parts (has_clock year t) (is_clock_zone t.tz) e in
        rw e (civil_none _ (never ((clock_has year t).0 tests.0) ((clock_zone_told t.tz).0 tests.1)))
    by false e = rw e refl

moment_found : (year : ℕ) (t : ASN1DateTime) (r : DateTime) → moment_at year t ≡ Some (civil_nanos r) → IsMomentOf year t r
unfolding moment_at
moment_found year t r e =
    let n = universal_nanos year t in
    let whole = by (has_clock year t && is_clock_zone t.tz) refl in
    let tests = and_parts _ _ whole.0 in
    let value = cond_some (is_civil_nanos n) n (civil_nanos r) whole.1 in
    record { clock = (clock_has year t).0 tests.0; zone = (clock_zone_told t.tz).0 tests.1; moment = sym value.1 }
  where
    by : (b : Bool) → (has_clock year t && is_clock_zone t.tz) ≡ b → ((has_clock year t && is_clock_zone t.tz) ≡ true) × (civil_only (universal_nanos year t) ≡ Some (civil_nanos r))
    by true is = (is, rw is at e)
    by false is = let never = rw is at e in cc

pub moment_is : (year : ℕ) (t : ASN1DateTime) (r : DateTime) → (moment_at year t ≡ Some (civil_nanos r)) ↔ IsMomentOf year t r
moment_is year t r = (
  moment_found year t r,
  λ p. moment_there year t p.clock p.zone ∙ civil_some _ (subst IsCivilNanos p.moment (civil_nanos_range r)) ∙ ap Some (sym p.moment),
)
