-- By which name times and validities are refused.
use Rattle.std.proofs.Common.{◌≡◌, ◌∙◌, ◌⊎◌, inl, inr, refl, sym, ap, subst, ℕ, ◌==◌, Bool, true, false, List, length, Option, Some, None, Ok, Err}
use Rattle.std.specs.Int.Digits.{AllBelowBase}
use Rattle.asn1_core.proofs.Cases.{chosen}
use Rattle.asn1_any.specs.Cutting.{Piece}
use Rattle.x509_core.specs.Answers.{Answer, Why, named, plain, naming, ◌>>=◌}
use Rattle.x509_core.specs.Grammar.{NoneBegins}
use Rattle.x509_core.specs.Reading.{content_in, next}
use Rattle.x509_core.specs.declared.error.X509Error.{X509Error}
use Rattle.x509_core.specs.declared.error.X509Error.TheVariants as errors
use Rattle.x509_time.specs.Reading.{time_in, time_at, validity_in, validity_at, is_absent, update_by, next_update_at}
use Rattle.x509_time.specs.Times.{Time, Period, ASN1Time}
use Rattle.x509_time.specs.Updates.{NextUpdate}
use Rattle.x509_time.proofs.TimeLaws.{time_reading}
use Rattle.x509_time.proofs.UpdateLaws.{update_reading}
use Rattle.laws_x509.specs.Refused.{Then, Inside}
use Rattle.laws_x509.specs.PartRefusals.{TimeRefused, NoValidity, ValidityRefused, UpdateRefused}
use Rattle.laws_x509.proofs.Steps.{which_step, told_by, name_is, not_there, part_step, is_refused, inside_told, inside_only, apart}

-- ---- times

-- what has a name is refused by it
pub told_so : {A : Type 0} (x : X509Error) (a : Answer A) (w : Why) → naming x a ≡ Err w → naming x a ≡ Err (named x)
told_so x (Ok v) w given = cc
told_so x (Err y) w given = refl

pub time_told : (i : List ℕ) (e : X509Error) → AllBelowBase 256 i → time_at i ≡ Err (named e) → (e ≡ errors.InvalidDate) × NoneBegins ASN1Time i
time_told i e below given =
    let told = told_by errors.InvalidDate (next (λ p. plain (time_in p.element)) i) (named e) given in
    (name_is e errors.InvalidDate told.0, not_there ASN1Time time_at time_reading i (named e) below given)

pub no_time : (i : List ℕ) → AllBelowBase 256 i → NoneBegins ASN1Time i → time_at i ≡ Err (named errors.InvalidDate)
no_time i below none =
    let by = is_refused ASN1Time time_at time_reading i below none in
    told_so errors.InvalidDate (next (λ p. plain (time_in p.element)) i) by.0 by.1

pub time_found : (e : X509Error) (i : List ℕ) → AllBelowBase 256 i → time_at i ≡ Err (named e) → TimeRefused e i
time_found e i below given = let is = time_told i e below given in subst (λ z. TimeRefused z i) (sym is.0) is.1

pub time_only : (e : X509Error) (i : List ℕ) → AllBelowBase 256 i → TimeRefused e i → time_at i ≡ Err (named e)
time_only errors.InvalidDate i below is = no_time i below is
time_only e i below is = absurd is

-- ---- validities

abbrev NoTimes : List ℕ → Type 0
NoTimes content = NoneBegins ASN1Time content ⊎ Then ASN1Time (NoneBegins ASN1Time) content

unfoldable validity_by : List ℕ → Answer Period
validity_by content = do
  b ← time_at content
  a ← time_at b.1
  Ok (record { not_before = b.0; not_after = a.0 })

validity_same : (q : Piece) → validity_in q.element ≡ content_in 16 q.element >>= validity_by
unfolding validity_in validity_by
validity_same q = refl

validity_parts : (content : List ℕ) (e : X509Error) → AllBelowBase 256 content → validity_by content ≡ Err (named e) → (e ≡ errors.InvalidDate) × NoTimes content
unfolding validity_by
validity_parts content e below given =
    elim (part_step ASN1Time time_at time_reading content _ e below given) [
      | inl here ↦ let is = time_told content e below here in (is.0, inl is.1)
      | inr step ↦ elim (part_step ASN1Time time_at time_reading step.after _ e step.below step.refused) [
        | inl here ↦ let is = time_told step.after e step.below here in (is.0, inr (record { value = step.value; after = step.after; begins = step.begins; next = is.1 }))
        | inr last ↦ let wrong = last.refused in cc
      ]
    ]

pub validity_told : (i : List ℕ) (e : X509Error) → AllBelowBase 256 i → validity_at i ≡ Err (named e) → (e ≡ errors.InvalidDate) × NoValidity i
validity_told i e below given =
    apart (e ≡ errors.InvalidDate) 16 NoTimes i
    (inside_told 16 (λ q. validity_in q.element) (λ q. validity_by) (λ o. (e ≡ errors.InvalidDate) × NoTimes o) i e validity_same below (λ q b told. validity_parts q.element.content e b told) given)

no_times : (content : List ℕ) → AllBelowBase 256 content → NoTimes content → validity_by content ≡ Err (named errors.InvalidDate)
unfolding validity_by
no_times content below (inl none) = rw (no_time content below none) refl
no_times content below (inr is) =
    let first = time_reading.only content is.value is.after below is.begins in
    let after = (time_reading.found content is.value is.after below first).1 in
    rw (first, no_time is.after after is.next) refl

pub no_validity : (i : List ℕ) → AllBelowBase 256 i → NoValidity i → validity_at i ≡ Err (named errors.InvalidDate)
no_validity i below is =
    inside_only 16 (λ q. validity_in q.element) (λ q. validity_by) NoTimes i errors.InvalidDate validity_same below (λ q b none. no_times q.element.content b none) is

pub validity_found : (e : X509Error) (i : List ℕ) → AllBelowBase 256 i → validity_at i ≡ Err (named e) → ValidityRefused e i
validity_found e i below given = let is = validity_told i e below given in subst (λ z. ValidityRefused z i) (sym is.0) is.1

pub validity_only : (e : X509Error) (i : List ℕ) → AllBelowBase 256 i → ValidityRefused e i → validity_at i ≡ Err (named e)
validity_only errors.InvalidDate i below is = no_validity i below is
validity_only e i below is = absurd is

-- ---- next updates

update_name_by : (absent : Bool) (i : List ℕ) (o : Answer (Time × List ℕ)) (w : Why) → update_by absent i o ≡ Err w → w ≡ named errors.InvalidDate
update_name_by absent i (Ok t) w given = cc
update_name_by true i (Err y) w given = cc
update_name_by false i (Err y) w given = cc

update_name : (i : List ℕ) (w : Why) → next_update_at i ≡ Err w → w ≡ named errors.InvalidDate
unfolding next_update_at
update_name i w given =
    elim (chosen (length i == 0) _ _ _ given) [
      | inl none ↦ let wrong = none.1 in cc
      | inr some ↦ update_name_by (is_absent i) i (time_at i) w some.1
    ]

pub update_told : (i : List ℕ) (e : X509Error) → AllBelowBase 256 i → next_update_at i ≡ Err (named e) → (e ≡ errors.InvalidDate) × NoneBegins NextUpdate i
update_told i e below given = (name_is e errors.InvalidDate (update_name i (named e) given), not_there NextUpdate next_update_at update_reading i (named e) below given)

pub no_update : (i : List ℕ) → AllBelowBase 256 i → NoneBegins NextUpdate i → next_update_at i ≡ Err (named errors.InvalidDate)
no_update i below none =
    let by = is_refused NextUpdate next_update_at update_reading i below none in
    by.1 ∙ ap (λ z. Err z) (update_name i by.0 by.1)

pub update_found : (e : X509Error) (i : List ℕ) → AllBelowBase 256 i → next_update_at i ≡ Err (named e) → UpdateRefused e i
update_found e i below given = let is = update_told i e below given in subst (λ z. UpdateRefused z i) (sym is.0) is.1

pub update_only : (e : X509Error) (i : List ℕ) → AllBelowBase 256 i → UpdateRefused e i → next_update_at i ≡ Err (named e)
update_only errors.InvalidDate i below is = no_update i below is
update_only e i below is = absurd is
