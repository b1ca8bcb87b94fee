-- The readers of times and validities take what the relations say, and no more.
use Rattle.std.proofs.Common.{◌≡◌, ◌↔◌, ◌⊎◌, inl, inr, sym, ap, refl, subst, arith, ◌==◌, ℕ, ℤ, Bool, true, false, if◌then◌else◌, List, Option, Some, None, option_map, Ok}
use Rattle.std.specs.Int.Digits.{AllBelowBase}
use Rattle.std.proofs.lemmas.Bool.Decides.{nat_tests}
use Rattle.std.proofs.lemmas.Option.{option_and_then_some}
use Rattle.asn1_core.proofs.Cases.{chosen}
use Rattle.asn1_core.specs.Elements.{Element}
use Rattle.asn1_any.specs.Cutting.{Piece}
use Rattle.asn1_times.proofs.DerForms.{der_generalized}
use Rattle.asn1_times.specs.Moments.{full_year}
use Rattle.asn1_times.specs.ReaderLaws.{utc_time_is, der_time_is}
use Rattle.asn1_times.specs.Readers.{utc_time_at, der_generalized_time_at, moment_at}
use Rattle.asn1_times.specs.declared.datetime.ASN1DateTime.{ASN1DateTime}
use Rattle.x509_core.specs.Answers.{plain}
use Rattle.x509_core.specs.Grammar.{Holds}
use Rattle.x509_core.specs.Reading.{next, content_in}
use Rattle.x509_core.specs.declared.error.X509Error.TheVariants as errors
use Rattle.x509_core.proofs.FrontLaws.{named_reading}
use Rattle.x509_core.proofs.Grammars.{IsMeaning, IsReading, next_reading, two, content_below}
use Rattle.x509_core.proofs.LeafLaws.{equal_tags, was_some, content_found as box_found, content_only as box_only}
use Rattle.x509_time.specs.Reading.{utc_nanos_at, general_nanos_at, time_of_nanos, time_in, time_at, validity_in, validity_at}
use Rattle.x509_time.specs.Times.{Time, Period, UtcMoment, GeneralContent, GeneralMoment, IsTime, utc_time, general_time, ASN1Time, ValidityParts, Validity}
use Rattle.x509_time.proofs.MomentLaws.{moment_found, moment_only}
use Rattle.x509_time.proofs.RangeLaws.{universal_in, utc_in, zone_shown}

pub utc_found : (content : List ℕ) (n : ℤ) → utc_nanos_at content ≡ Some n → UtcMoment content n
unfolding utc_nanos_at
utc_found content n given =
    option_and_then_some {P = UtcMoment content n} (λ t. moment_at (full_year t.year) t) (utc_time_at content) n given (λ t read e. record {
      fields = t;
      spelled = (utc_time_is content t).0 read;
      moment = moment_found (full_year t.year) t n e;
    })

pub utc_only : (content : List ℕ) (n : ℤ) → UtcMoment content n → utc_nanos_at content ≡ Some n
unfolding utc_nanos_at
utc_only content n is =
    let t = is.fields in
    let fields = is.spelled.fields in
    let civil = utc_in t fields.year fields.zone is.moment.clock in
    rw ((utc_time_is content t).1 is.spelled) (moment_only (full_year t.year) t n (zone_shown t.tz fields.zone) (rw is.moment.value civil) is.moment)

pub content_found : (content : List ℕ) (t : ASN1DateTime) → der_generalized_time_at content ≡ Some t → GeneralContent content t
content_found content t read =
    let both = (der_generalized content t).0 ((der_time_is content t).0 read) in
    record { in_form = both.0; spelled = both.1 }

pub content_only : (content : List ℕ) (t : ASN1DateTime) → GeneralContent content t → der_generalized_time_at content ≡ Some t
content_only content t is = (der_time_is content t).1 ((der_generalized content t).1 (is.in_form, is.spelled))

pub general_found : (content : List ℕ) (n : ℤ) → general_nanos_at content ≡ Some n → GeneralMoment content n
unfolding general_nanos_at
general_found content n given =
    option_and_then_some {P = GeneralMoment content n} (λ t. moment_at t.year t) (der_generalized_time_at content) n given (λ t read e. record {
      fields = t;
      spelled = content_found content t read;
      moment = moment_found t.year t n e;
    })

pub general_only : (content : List ℕ) (n : ℤ) → GeneralMoment content n → general_nanos_at content ≡ Some n
unfolding general_nanos_at
general_only content n is =
    let t = is.fields in
    let zone = is.spelled.in_form.universal in
    let civil = universal_in t.year t is.moment.clock zone in
    rw (content_only content t is.spelled) (moment_only t.year t n (rw zone tt) (rw is.moment.value civil) is.moment)

pub general_is : (content : List ℕ) (n : ℤ) → (general_nanos_at content ≡ Some n) ↔ GeneralMoment content n
general_is content n = (general_found content n, general_only content n)

was_told : (generalized : Bool) (o : Option ℤ) (v : Time) → option_map (time_of_nanos generalized) o ≡ Some v → (o ≡ Some v.nanoseconds) × (v.generalized ≡ generalized)
was_told generalized None v given = cc
was_told generalized (Some n) v given =
    let same : time_of_nanos generalized n ≡ v = cc in
    (ap (λ (z : Time). Some z.nanoseconds) same, sym (ap (λ (z : Time). z.generalized) same))

time_case : (c a b : Bool) (x y : Option Time) (v : Time) → (if c then None else if a then x else if b then y else None) ≡ Some v
    → (c ≡ false) × (((a ≡ true) × (x ≡ Some v)) ⊎ ((b ≡ true) × (y ≡ Some v)))
time_case true a b x y v given = cc
time_case false true b x y v given = (refl, inl (refl, given))
time_case false false true x y v given = (refl, inr (refl, given))
time_case false false false x y v given = cc

time_found : (q : Piece) (v : Time) → time_in q.element ≡ Some v → IsTime q v
unfolding time_in
time_found q v given =
    let e = q.element in
    let case = time_case e.constructed (e.tag == 23) (e.tag == 24) (option_map (time_of_nanos false) (utc_nanos_at e.content)) (option_map (time_of_nanos true) (general_nanos_at e.content)) v given in
    elim case.1 [
      | inl utc ↦
          let told = was_told false (utc_nanos_at e.content) v utc.1 in
          utc_time (record { leaf = record { tag_is = equal_tags e.tag 23 utc.0; primitive = case.0 }; meant = utc_found e.content v.nanoseconds told.0 }) told.1
      | inr general ↦
          let told = was_told true (general_nanos_at e.content) v general.1 in
          general_time (record { leaf = record { tag_is = equal_tags e.tag 24 general.0; primitive = case.0 }; meant = general_found e.content v.nanoseconds told.0 }) told.1
    ]

time_only : (q : Piece) (v : Time) → IsTime q v → time_in q.element ≡ Some v
unfolding time_in
time_only q v (utc_time is form) =
    rw (is.leaf.primitive, is.leaf.tag_is, utc_only q.element.content v.nanoseconds is.meant) (ap (λ g. Some (time_of_nanos g v.nanoseconds)) (sym form))
time_only q v (general_time is form) =
    rw (is.leaf.primitive, is.leaf.tag_is, general_only q.element.content v.nanoseconds is.meant) (ap (λ g. Some (time_of_nanos g v.nanoseconds)) (sym form))

pub time_is : (q : Piece) (v : Time) → (time_in q.element ≡ Some v) ↔ IsTime q v
time_is q v = (time_found q v, time_only q v)

pub time_meaning : IsMeaning IsTime (λ q. plain (time_in q.element))
time_meaning = record {
  found = λ q v spells below given. time_found q v (was_some (time_in q.element) v given);
  only = λ q v spells below is. ap plain (time_only q v is);
}

pub time_reading : IsReading ASN1Time time_at
time_reading = named_reading ASN1Time (next (λ q. plain (time_in q.element))) errors.InvalidDate (next_reading IsTime (λ q. plain (time_in q.element)) time_meaning)

pub validity_meaning : IsMeaning (Holds 16 ValidityParts) (λ q. validity_in q.element)
unfolding validity_in
validity_meaning = record {
  found = λ q v spells below given.
      let content = two (content_in 16 q.element) _ v given in
      let tag = box_found 16 q.element content.0 content.1 in
      let inner : AllBelowBase 256 content.0 = subst (AllBelowBase 256) tag.1 (content_below q spells below) in
      let first = two (time_at content.0) _ v content.2 in
      let start = time_reading.found content.0 first.0.0 first.0.1 inner first.1 in
      let last = two (time_at first.0.1) _ v first.2 in
      let end = time_reading.found first.0.1 last.0.0 last.0.1 start.1 last.1 in
      let same : ◌≡◌ {A = Period} (record { not_before = first.0.0; not_after = last.0.0 }) v = cc in
      let parts : ValidityParts content.0 (record { not_before = first.0.0; not_after = last.0.0 }) last.0.1 = record { after_start = first.0.1; not_before = start.0; not_after = end.0 } in
      (last.0.1, record { tag = tag.0; inner = subst (λ z. ValidityParts z v last.0.1) (sym tag.1) (subst (λ z. ValidityParts content.0 z last.0.1) same parts) });
  only = λ q v spells below is.
      let parts = is.1.inner in
      let inner = content_below q spells below in
      let start = time_reading.only q.element.content v.not_before parts.after_start inner parts.not_before in
      let end = time_reading.only parts.after_start v.not_after is.0 (time_reading.found q.element.content v.not_before parts.after_start inner start).1 parts.not_after in
      rw (box_only 16 q.element is.1.tag, start, end) refl;
}

pub validity_reading : IsReading Validity validity_at
validity_reading = next_reading (Holds 16 ValidityParts) (λ q. validity_in q.element) validity_meaning
