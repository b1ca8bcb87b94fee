-- What is written of a UTCTime is read back; octets mean one time at most.
use Rattle.std.proofs.Common.{◌≡◌, ◌∙◌, sym, ap, refl, subst, inl, ◌++◌, arith, ℕ, List, Some, None, []}
use Rattle.std.proofs.lemmas.Option.{option_and_then_some, none-some}
use Rattle.asn1_times.specs.Fields.{two_digits, minute_octets, fraction_octets, zone_octets, SpellsTime, IsFraction, IsZone, IsToldZone}
use Rattle.asn1_times.specs.Reading.{pair_at, utc_at}
use Rattle.asn1_times.specs.ReadingLaws.{pair_found, pair_again, tail_found, tail_again, IsWritable}
use Rattle.asn1_times.specs.UtcTimes.{IsUtcTime, utc_octets, UtcMeans}
use Rattle.asn1_times.specs.declared.datetime.ASN1DateTime.{ASN1DateTime}
use Rattle.asn1_times.specs.declared.datetime.ASN1TimeZone.{ASN1TimeZone}
use Rattle.asn1_times.specs.declared.datetime.ASN1TimeZone.TheVariants as zones

pub told : (z : ASN1TimeZone) → IsToldZone z → IsZone z
told zones.Undefined p = absurd p
told zones.Z p = tt
told (zones.Offset h m) p = p

utc_writable : (t : ASN1DateTime) → IsUtcTime t → IsWritable t
utc_writable t p = record {
  month = omega (arith, p.clock.0);
  day = omega (arith, p.clock.1);
  hour = omega (arith, p.clock.2);
  minute = omega (arith, p.clock.3);
  second = omega (arith, p.clock.4);
  fraction = subst IsFraction (sym p.whole) tt;
  zone = told t.tz p.zone;
}

pub utc_found : (i : List ℕ) (t : ASN1DateTime) → utc_at i ≡ Some t → IsUtcTime t → UtcMeans i t
unfolding utc_at
utc_found i t e is =
    option_and_then_some _ (pair_at i) t e (λ year e0 r0.
    let first = (pair_found i year.0 year.1 e0).1 in
    let rest = tail_found year.0 year.1 t r0 in
    let spelled = rest.1 in
    let whole : i ≡ two_digits t.year ++ minute_octets t ++ spelled.seconds ++ spelled.zone =
    first ∙ ap (λ n. two_digits n ++ year.1) (sym rest.0) ∙ ap (λ z. two_digits t.year ++ z) spelled.octets in
    record {
      fields = is;
      spelled = record { seconds = spelled.seconds; zone = spelled.zone; seconds_spelled = spelled.seconds_spelled; zone_spelled = spelled.zone_spelled; octets = whole };
    })

pub utc_only : (i : List ℕ) (t : ASN1DateTime) → UtcMeans i t → utc_at i ≡ Some t
unfolding utc_at
utc_only i t p =
    let s = p.spelled in
    let rest = minute_octets t ++ s.seconds ++ s.zone in
    let first = pair_again t.year rest p.fields.year in
    let tail : SpellsTime [] rest t = record { seconds = s.seconds; zone = s.zone; seconds_spelled = s.seconds_spelled; zone_spelled = s.zone_spelled; octets = refl } in
    let second = tail_again rest t (utc_writable t p.fields) tail in
    ap utc_at s.octets ∙ rw (first, second) refl

-- octets mean one time at most
pub utc_once : (i : List ℕ) (t u : ASN1DateTime) → UtcMeans i t → UtcMeans i u → t ≡ u
utc_once i t u p q = let both : Some t ≡ Some u = sym (utc_only i t p) ∙ utc_only i u q in cc

-- what is written means the time
pub utc_means : (t : ASN1DateTime) → IsUtcTime t → UtcMeans (utc_octets t) t
utc_means t is = record {
  fields = is;
  spelled = record { seconds = two_digits t.second ++ fraction_octets t.millisecond; zone = zone_octets t.tz; seconds_spelled = inl refl; zone_spelled = inl refl; octets = refl };
}

pub utc_same : (t u : ASN1DateTime) → IsUtcTime t → UtcMeans (utc_octets t) u → utc_octets u ≡ utc_octets t
utc_same t u is read = ap utc_octets (utc_once (utc_octets t) u t read (utc_means t is))

-- octets that aren't read, or that are read as fields that no UTCTime has, mean nothing
pub utc_none : (i : List ℕ) → None ≡ utc_at i → (t : ASN1DateTime) → UtcMeans i t → ⊥
utc_none i e t p = none-some {A = ASN1DateTime} t (e ∙ utc_only i t p)

pub utc_unfit : (i : List ℕ) (t : ASN1DateTime) → Some t ≡ utc_at i → (IsUtcTime t → ⊥) → (u : ASN1DateTime) → UtcMeans i u → ⊥
utc_unfit i t e unfit u p = let both : Some t ≡ Some u = e ∙ utc_only i u p in let same : t ≡ u = cc in unfit (subst IsUtcTime (sym same) p.fields)

-- times in DER form that are written alike are one
pub utc_differ : (t u : ASN1DateTime) → IsUtcTime t → IsUtcTime u → utc_octets t ≡ utc_octets u → t ≡ u
utc_differ t u p q e = utc_once (utc_octets t) t u (utc_means t p) (subst (λ c. UtcMeans c u) (sym e) (utc_means u q))
