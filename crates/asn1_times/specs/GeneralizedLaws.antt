-- What is written of a GeneralizedTime is read back; octets mean one time at most.
use Rattle.std.proofs.Common.{◌≡◌, ◌∙◌, sym, ap, refl, subst, inl, ◌+◌, ◌*◌, ◌/◌, ◌%◌, ◌<◌, ◌++◌, arith, ℕ, List, [], Some, None}
use Rattle.std.proofs.lemmas.Option.{option_and_then_some, none-some}
use Rattle.asn1_times.specs.Fields.{two_digits, minute_octets, fraction_octets, zone_octets, SpellsTime}
use Rattle.asn1_times.specs.Reading.{pair_at, generalized_at}
use Rattle.asn1_times.specs.ReadingLaws.{pair_found, pair_again, tail_found, tail_again, IsWritable}
use Rattle.asn1_times.specs.GeneralizedTimes.{four_digits, HasFields, IsGeneralizedTime, generalized_octets, GeneralizedMeans, HasSecondsAndZ}
use Rattle.asn1_times.specs.declared.datetime.ASN1DateTime.{ASN1DateTime}

fields_writable : (t : ASN1DateTime) → HasFields t → IsWritable t
fields_writable t p = record {
  month = omega (arith, p.clock.0);
  day = omega (arith, p.clock.1);
  hour = omega (arith, p.clock.2);
  minute = omega (arith, p.clock.3);
  second = omega (arith, p.clock.4);
  fraction = p.fraction;
  zone = p.zone;
}

pub generalized_found : (i : List ℕ) (t : ASN1DateTime) → generalized_at i ≡ Some t → HasFields t → GeneralizedMeans i t
unfolding generalized_at
generalized_found i t e is =
    option_and_then_some _ (pair_at i) t e (λ century e0 r0.
    option_and_then_some _ (pair_at century.1) t r0 (λ year e1 r1.
    let first = pair_found i century.0 century.1 e0 in
    let second = pair_found century.1 year.0 year.1 e1 in
    let rest = tail_found (century.0 * 100 + year.0) year.1 t r1 in
    let spelled = rest.1 in
    let tens : century.0 / 10 % 10 ≡ t.year / 100 / 10 % 10 = omega (arith, first.0, second.0, rest.0) in
    let ones : century.0 % 10 ≡ t.year / 100 % 10 = omega (arith, first.0, second.0, rest.0) in
    let late_tens : year.0 / 10 % 10 ≡ t.year / 10 % 10 = omega (arith, first.0, second.0, rest.0) in
    let late_ones : year.0 % 10 ≡ t.year % 10 = omega (arith, first.0, second.0, rest.0) in
    let high : two_digits century.0 ≡ two_digits (t.year / 100) = rw (tens, ones) refl in
    let low : two_digits year.0 ≡ two_digits t.year = rw (late_tens, late_ones) refl in
    let whole : i ≡ four_digits t.year ++ minute_octets t ++ spelled.seconds ++ spelled.zone =
    first.1 ∙ ap (λ z. two_digits century.0 ++ z) second.1 ∙ ap (λ z. z ++ (two_digits year.0 ++ year.1)) high
    ∙ ap (λ z. two_digits (t.year / 100) ++ (z ++ year.1)) low ∙ ap (λ z. four_digits t.year ++ z) spelled.octets in
    record {
      fields = is;
      spelled = record { seconds = spelled.seconds; zone = spelled.zone; seconds_spelled = spelled.seconds_spelled; zone_spelled = spelled.zone_spelled; octets = whole };
    }))

pub generalized_only : (i : List ℕ) (t : ASN1DateTime) → GeneralizedMeans i t → generalized_at i ≡ Some t
unfolding generalized_at
generalized_only i t p =
    let s = p.spelled in
    let y = t.year in
    let rest = minute_octets t ++ s.seconds ++ s.zone in
    let small : y < 10000 = p.fields.year in
    let tens : y / 10 % 10 ≡ y % 100 / 10 % 10 = omega arith in
    let ones : y % 10 ≡ y % 100 % 10 = omega arith in
    let low : two_digits y ≡ two_digits (y % 100) = rw (tens, ones) refl in
    let first = pair_again (y / 100) (two_digits y ++ rest) (omega (arith, small)) in
    let second : pair_at (two_digits y ++ rest) ≡ Some (y % 100, rest) = ap (λ z. pair_at (z ++ rest)) low ∙ pair_again (y % 100) rest (omega arith) in
    let year : y / 100 * 100 + y % 100 ≡ y = omega arith in
    let tail : SpellsTime [] rest t = record { seconds = s.seconds; zone = s.zone; seconds_spelled = s.seconds_spelled; zone_spelled = s.zone_spelled; octets = refl } in
    let third = tail_again rest t (fields_writable t p.fields) tail in
    ap generalized_at s.octets ∙ rw (first, second, year, third) refl

-- octets mean one time at most
pub generalized_once : (i : List ℕ) (t u : ASN1DateTime) → GeneralizedMeans i t → GeneralizedMeans i u → t ≡ u
generalized_once i t u p q = let both : Some t ≡ Some u = sym (generalized_only i t p) ∙ generalized_only i u q in cc

-- what is written means the time
pub generalized_means : (t : ASN1DateTime) → HasFields t → GeneralizedMeans (generalized_octets t) t
generalized_means t is = record {
  fields = is;
  spelled = record { seconds = two_digits t.second ++ fraction_octets t.millisecond; zone = zone_octets t.tz; seconds_spelled = inl refl; zone_spelled = inl refl; octets = refl };
}

pub generalized_allowed : (t : ASN1DateTime) → IsGeneralizedTime t → HasSecondsAndZ (generalized_octets t)
generalized_allowed t is =
    let front = four_digits t.year ++ minute_octets t ++ two_digits t.second ++ fraction_octets t.millisecond in
    record { front = front; seconds = omega arith; octets = ap (λ z. front ++ zone_octets z) is.universal }

pub generalized_fits : (t : ASN1DateTime) → IsGeneralizedTime t → HasSecondsAndZ (generalized_octets t) × GeneralizedMeans (generalized_octets t) t
generalized_fits t is = (generalized_allowed t is, generalized_means t is.fields)

pub generalized_same : (t u : ASN1DateTime) → IsGeneralizedTime t → GeneralizedMeans (generalized_octets t) u → generalized_octets u ≡ generalized_octets t
generalized_same t u is read = ap generalized_octets (generalized_once (generalized_octets t) u t read (generalized_means t is.fields))

-- octets that aren't read, or that are read as fields that no GeneralizedTime has, mean nothing
pub generalized_none : (i : List ℕ) → None ≡ generalized_at i → (t : ASN1DateTime) → GeneralizedMeans i t → ⊥
generalized_none i e t p = none-some {A = ASN1DateTime} t (e ∙ generalized_only i t p)

pub generalized_unfit : (i : List ℕ) (t : ASN1DateTime) → Some t ≡ generalized_at i → (HasFields t → ⊥) → (u : ASN1DateTime) → GeneralizedMeans i u → ⊥
generalized_unfit i t e unfit u p =
    let both : Some t ≡ Some u = e ∙ generalized_only i u p in
    let same : t ≡ u = cc in
    unfit (subst HasFields (sym same) p.fields)
