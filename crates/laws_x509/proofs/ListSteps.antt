-- By which names revocation lists are refused.
use Rattle.std.proofs.Common.{◌≡◌, ◌∙◌, ◌⊎◌, inl, inr, refl, sym, ap, subst, ℕ, List, Option, Ok, Err}
use Rattle.std.specs.Int.Digits.{AllBelowBase}
use Rattle.asn1_any.specs.Cutting.{Piece}
use Rattle.x509_core.specs.Answers.{Answer, named, plain, naming, ◌>>=◌}
use Rattle.x509_core.specs.Grammar.{NoneBegins, One, HoldsWindow, Maybe}
use Rattle.x509_core.specs.Reading.{content_in}
use Rattle.x509_core.specs.declared.error.X509Error.{X509Error}
use Rattle.x509_core.specs.declared.error.X509Error.TheVariants as errors
use Rattle.x509_core.proofs.Grammars.{IsReading, next_reading}
use Rattle.x509_names.specs.Fields.{Algorithm, Name}
use Rattle.x509_names.specs.Leaves.{IsBits}
use Rattle.x509_names.specs.Names.{AlgorithmIdentifier, X509Name}
use Rattle.x509_names.specs.Reading.{algorithm_at, name_at, bits_at}
use Rattle.x509_time.specs.Reading.{time_at, next_update_at}
use Rattle.x509_time.specs.Times.{Time, ASN1Time}
use Rattle.x509_time.specs.Updates.{NextUpdate}
use Rattle.x509_time.proofs.TimeLaws.{time_reading}
use Rattle.x509_time.proofs.UpdateLaws.{update_reading}
use Rattle.x509_ext.specs.Fields.{Extension, ValueMeaning, ValueReading}
use Rattle.x509_ext.specs.Parts.{IsVersion}
use Rattle.x509_ext.specs.Reading.{version_in}
use Rattle.x509_ext.proofs.ExtensionLaws.{IsValueLaw}
use Rattle.x509_ext.proofs.PartLaws.{version_meaning}
use Rattle.x509_lists.specs.Fields.{Entry, TbsList, RevocationList}
use Rattle.x509_lists.specs.Lists.{RevokedCertificates, TbsParts, TbsCertList}
use Rattle.x509_lists.specs.Reading.{number_at, version_at, entries_at, tbs_in, tbs_at, list_in, list_at}
use Rattle.x509_lists.proofs.EntryLaws.{IsMaybe, maybe_found, maybe_only}
use Rattle.x509_lists.proofs.ListLaws.{tbs_meaning}
use Rattle.laws_x509.specs.Refused.{Then, Inside, NoWrapper, Never}
use Rattle.laws_x509.specs.NameRefusals.{NoIdentifier}
use Rattle.laws_x509.specs.ListRefusals.{AfterIssuer, AfterDates, TbsPartsRefused, TbsListRefused, ListPartsRefused, ListRefused}
use Rattle.laws_x509.proofs.Steps.{part_step, named_step, none_told, inside_told, inside_only}
use Rattle.laws_x509.proofs.NameSteps.{bits, algorithms, names, algorithm_told, no_algorithm, name_silent}
use Rattle.laws_x509.proofs.TimeSteps.{time_told, no_time, update_told, no_update}
use Rattle.laws_x509.proofs.EntrySteps.{revoked_by, revoked_told, no_revoked}

numbers : IsReading (One IsVersion) number_at
numbers = next_reading IsVersion (λ q. plain (version_in q.element)) version_meaning

version_found : (i : List ℕ) → AllBelowBase 256 i → IsMaybe (One IsVersion) i (version_at i).0 (version_at i).1
unfolding version_at
version_found i below = maybe_found (One IsVersion) number_at numbers i below

version_only : (i : List ℕ) (v : Option ℕ) (r : List ℕ) → AllBelowBase 256 i → Maybe (One IsVersion) i v r → version_at i ≡ (v, r)
unfolding version_at
version_only i v r below is = maybe_only (One IsVersion) number_at numbers i v r below is

-- what is left after a version
version_left : (i : List ℕ) (v : Option ℕ) (r : List ℕ) → AllBelowBase 256 i → Maybe (One IsVersion) i v r → AllBelowBase 256 r
version_left i v r below is = subst (AllBelowBase 256) (ap (λ (z : Option ℕ × List ℕ). z.1) (version_only i v r below is)) (version_found i below).below

-- ---- the signed part: entries and extensions are read after the dates

abbrev Put : Type 0
Put = Option Time → List Entry → List Extension → TbsList

unfoldable dates_by : ValueReading → (Time → Put) → List ℕ → Answer TbsList
dates_by parse put i = do
  this_update ← time_at i
  next_update ← next_update_at this_update.1
  revoked_by parse (put this_update.0 next_update.0) next_update.1

unfoldable signed_by : ValueReading → (Option ℕ → Algorithm → Name → Time → Put) → List ℕ → Answer TbsList
signed_by parse put i = do
  signature ← algorithm_at (version_at i).1
  issuer ← name_at signature.1
  dates_by parse (put (version_at i).0 signature.0 issuer.0) issuer.1

abbrev made : List ℕ → Option ℕ → Algorithm → Name → Time → Put
made raw version signature issuer this_update next_update entries extensions =
    record { version = version; signature = signature; issuer = issuer; this_update = this_update; next_update = next_update; entries = entries; extensions = extensions; raw = raw }

signed_same : (parse : ValueReading) (q : Piece) → tbs_in parse q ≡ content_in 16 q.element >>= signed_by parse (made q.octets)
unfolding tbs_in signed_by dates_by revoked_by
signed_same parse q = refl

abbrev DatesRefused : ValueMeaning → X509Error → List ℕ → Type 0
DatesRefused Means errors.InvalidDate = λ octets. NoneBegins ASN1Time octets ⊎ Then ASN1Time (NoneBegins NextUpdate) octets
DatesRefused Means errors.InvalidExtensions = Then ASN1Time (Then NextUpdate (Then (Maybe (RevokedCertificates Means)) (NoWrapper 0)))
DatesRefused Means e = Never

dates_told : (Means : ValueMeaning) (parse : ValueReading) → IsValueLaw Means parse → (put : Time → Put) (i : List ℕ) (e : X509Error) → AllBelowBase 256 i → dates_by parse put i ≡ Err (named e) → DatesRefused Means e i
unfolding dates_by
dates_told Means parse law put i e below given =
    elim (part_step ASN1Time time_at time_reading i _ e below given) [
      | inl here ↦ let is = time_told i e below here in subst (λ z. DatesRefused Means z i) (sym is.0) (inl is.1)
      | inr s1 ↦ elim (part_step NextUpdate next_update_at update_reading s1.after _ e s1.below s1.refused) [
        | inl here ↦
            let is = update_told s1.after e s1.below here in
            subst (λ z. DatesRefused Means z i) (sym is.0) (inr (record { value = s1.value; after = s1.after; begins = s1.begins; next = is.1 }))
        | inr s2 ↦
            let is = revoked_told Means parse law (put s1.value s2.value) s2.after e s2.below s2.refused in
            subst (λ z. DatesRefused Means z i) (sym is.0) (record {
              value = s1.value;
              after = s1.after;
              begins = s1.begins;
              next = record { value = s2.value; after = s2.after; begins = s2.begins; next = is.1 };
            })
      ]
    ]

dates_only : (Means : ValueMeaning) (parse : ValueReading) → IsValueLaw Means parse → (put : Time → Put) (e : X509Error) (i : List ℕ) → AllBelowBase 256 i → DatesRefused Means e i → dates_by parse put i ≡ Err (named e)
unfolding dates_by
dates_only Means parse law put errors.InvalidDate i below (inl none) = rw (no_time i below none) refl
dates_only Means parse law put errors.InvalidDate i below (inr is) =
    let e1 = time_reading.only i is.value is.after below is.begins in
    let b1 = (time_reading.found i is.value is.after below e1).1 in
    rw (e1, no_update is.after b1 is.next) refl
dates_only Means parse law put errors.InvalidExtensions i below is =
    let e1 = time_reading.only i is.value is.after below is.begins in
    let b1 = (time_reading.found i is.value is.after below e1).1 in
    let e2 = update_reading.only is.after is.next.value is.next.after b1 is.next.begins in
    let b2 = (update_reading.found is.after is.next.value is.next.after b1 e2).1 in
    let last = is.next.next in
    rw (e1, e2) (no_revoked Means parse law (put is.value is.next.value) is.next.after last.value last.after b2 last.begins last.next)
dates_only Means parse law put e i below is = absurd is

dates_placed : (Means : ValueMeaning) (e : X509Error) (i : List ℕ) → AfterIssuer (DatesRefused Means e) i → TbsPartsRefused Means e i
dates_placed Means errors.InvalidDate i is = is
dates_placed Means errors.InvalidExtensions i is = is
dates_placed Means e i is = absurd is.next.next.next

signed_told : (Means : ValueMeaning) (parse : ValueReading) → IsValueLaw Means parse → (put : Option ℕ → Algorithm → Name → Time → Put) (i : List ℕ) (e : X509Error) → AllBelowBase 256 i → signed_by parse put i ≡ Err (named e) → TbsPartsRefused Means e i
unfolding signed_by
signed_told Means parse law put i e below given =
    let s0 = version_found i below in
    elim (part_step AlgorithmIdentifier algorithm_at algorithms (version_at i).1 _ e s0.below given) [
      | inl here ↦
          let is = algorithm_told (version_at i).1 e s0.below here in
          subst (λ z. TbsPartsRefused Means z i) (sym is.0) (record { value = (version_at i).0; after = (version_at i).1; begins = s0.is; next = is.1 })
      | inr s1 ↦ elim (part_step X509Name name_at names s1.after _ e s1.below s1.refused) [
        | inl here ↦ absurd (name_silent s1.after e s1.below here)
        | inr s2 ↦ dates_placed Means e i (record {
          value = (version_at i).0;
          after = (version_at i).1;
          begins = s0.is;
          next = record {
            value = s1.value;
            after = s1.after;
            begins = s1.begins;
            next = record {
              value = s2.value;
              after = s2.after;
              begins = s2.begins;
              next = dates_told Means parse law (put (version_at i).0 s1.value s2.value) s2.after e s2.below s2.refused;
            };
          };
        })
      ]
    ]

signed_dates : (Means : ValueMeaning) (parse : ValueReading) → IsValueLaw Means parse → (put : Option ℕ → Algorithm → Name → Time → Put) (e : X509Error) (i : List ℕ) → AllBelowBase 256 i → AfterIssuer (DatesRefused Means e) i → signed_by parse put i ≡ Err (named e)
unfolding signed_by
signed_dates Means parse law put e i below is =
    let e0 = version_only i is.value is.after below is.begins in
    let b0 = version_left i is.value is.after below is.begins in
    let e1 = algorithms.only is.after is.next.value is.next.after b0 is.next.begins in
    let b1 = (algorithms.found is.after is.next.value is.next.after b0 e1).1 in
    let last = is.next.next in
    let e2 = names.only is.next.after last.value last.after b1 last.begins in
    let b2 = (names.found is.next.after last.value last.after b1 e2).1 in
    rw (e0, e1, e2) (dates_only Means parse law (put is.value is.next.value last.value) e last.after b2 last.next)

signed_only : (Means : ValueMeaning) (parse : ValueReading) → IsValueLaw Means parse → (put : Option ℕ → Algorithm → Name → Time → Put) (e : X509Error) (i : List ℕ) → AllBelowBase 256 i → TbsPartsRefused Means e i → signed_by parse put i ≡ Err (named e)
unfolding signed_by
signed_only Means parse law put errors.InvalidAlgorithmIdentifier i below is =
    let e0 = version_only i is.value is.after below is.begins in
    rw (e0, no_algorithm is.after (version_left i is.value is.after below is.begins) is.next) refl
signed_only Means parse law put errors.InvalidDate i below is = signed_dates Means parse law put errors.InvalidDate i below is
signed_only Means parse law put errors.InvalidExtensions i below is = signed_dates Means parse law put errors.InvalidExtensions i below is
signed_only Means parse law put e i below is = absurd is

pub tbs_found : (Means : ValueMeaning) (parse : ValueReading) → IsValueLaw Means parse → (e : X509Error) (i : List ℕ) → AllBelowBase 256 i → tbs_at parse i ≡ Err (named e) → TbsListRefused Means e i
tbs_found Means parse law e i below given =
    inside_told 16 (tbs_in parse) (λ q. signed_by parse (made q.octets)) (TbsPartsRefused Means e) i e (signed_same parse) below (λ q b told. signed_told Means parse law (made q.octets) q.element.content e b told) given

pub tbs_only : (Means : ValueMeaning) (parse : ValueReading) → IsValueLaw Means parse → (e : X509Error) (i : List ℕ) → AllBelowBase 256 i → TbsListRefused Means e i → tbs_at parse i ≡ Err (named e)
tbs_only Means parse law e i below is =
    inside_only 16 (tbs_in parse) (λ q. signed_by parse (made q.octets)) (TbsPartsRefused Means e) i e (signed_same parse) below (λ q b none. signed_only Means parse law (made q.octets) e q.element.content b none) is

-- ---- lists

signed_parts : (Means : ValueMeaning) (parse : ValueReading) → IsValueLaw Means parse → IsReading (TbsCertList Means) (tbs_at parse)
signed_parts Means parse law = next_reading (HoldsWindow 16 (TbsParts Means) (λ t. t.raw)) (tbs_in parse) (tbs_meaning Means parse law)

unfoldable list_by : ValueReading → Piece → List ℕ → Answer RevocationList
list_by parse q content = do
  tbs ← tbs_at parse content
  algorithm ← algorithm_at tbs.1
  signature_value ← naming errors.InvalidSignatureValue (bits_at algorithm.1)
  Ok (record { tbs = tbs.0; algorithm = algorithm.0; signature_value = signature_value.0; raw = q.octets })

list_same : (parse : ValueReading) (q : Piece) → list_in parse q ≡ content_in 16 q.element >>= list_by parse q
unfolding list_in list_by
list_same parse q = refl

signed_placed : (Means : ValueMeaning) (e : X509Error) (i : List ℕ) → TbsListRefused Means e i → ListPartsRefused Means e i
signed_placed Means errors.InvalidSignatureValue i is = absurd is.inner
signed_placed Means errors.InvalidAlgorithmIdentifier i is = inl is
signed_placed Means e i is = is

list_told : (Means : ValueMeaning) (parse : ValueReading) → IsValueLaw Means parse → (q : Piece) (i : List ℕ) (e : X509Error) → AllBelowBase 256 i → list_by parse q i ≡ Err (named e) → ListPartsRefused Means e i
unfolding list_by
list_told Means parse law q i e below given =
    elim (part_step (TbsCertList Means) (tbs_at parse) (signed_parts Means parse law) i _ e below given) [
      | inl here ↦ signed_placed Means e i (tbs_found Means parse law e i below here)
      | inr s1 ↦ elim (part_step AlgorithmIdentifier algorithm_at algorithms s1.after _ e s1.below s1.refused) [
        | inl here ↦
            let is = algorithm_told s1.after e s1.below here in
            subst (λ z. ListPartsRefused Means z i) (sym is.0) (inr (record { value = s1.value; after = s1.after; begins = s1.begins; next = is.1 }))
        | inr s2 ↦ elim (named_step (One IsBits) bits_at bits errors.InvalidSignatureValue s2.after _ e s2.below s2.refused) [
          | inl here ↦ subst (λ z. ListPartsRefused Means z i) (sym here.0) (record {
            value = s1.value;
            after = s1.after;
            begins = s1.begins;
            next = record { value = s2.value; after = s2.after; begins = s2.begins; next = here.1 };
          })
          | inr last ↦ let wrong = last.refused in cc
        ]
      ]
    ]

signed_refused : (Means : ValueMeaning) (parse : ValueReading) → IsValueLaw Means parse → (q : Piece) (e : X509Error) (i : List ℕ) → AllBelowBase 256 i → TbsListRefused Means e i → list_by parse q i ≡ Err (named e)
unfolding list_by
signed_refused Means parse law q e i below is = rw (tbs_only Means parse law e i below is) refl

list_parts : (Means : ValueMeaning) (parse : ValueReading) → IsValueLaw Means parse → (q : Piece) (e : X509Error) (i : List ℕ) → AllBelowBase 256 i → ListPartsRefused Means e i → list_by parse q i ≡ Err (named e)
unfolding list_by
list_parts Means parse law q errors.InvalidSignatureValue i below is =
    let e1 = (signed_parts Means parse law).only i is.value is.after below is.begins in
    let b1 = ((signed_parts Means parse law).found i is.value is.after below e1).1 in
    let e2 = algorithms.only is.after is.next.value is.next.after b1 is.next.begins in
    let b2 = (algorithms.found is.after is.next.value is.next.after b1 e2).1 in
    rw (e1, e2, none_told (One IsBits) bits_at bits errors.InvalidSignatureValue is.next.after b2 is.next.next) refl
list_parts Means parse law q errors.InvalidAlgorithmIdentifier i below (inl is) = signed_refused Means parse law q errors.InvalidAlgorithmIdentifier i below is
list_parts Means parse law q errors.InvalidAlgorithmIdentifier i below (inr is) =
    let e1 = (signed_parts Means parse law).only i is.value is.after below is.begins in
    let b1 = ((signed_parts Means parse law).found i is.value is.after below e1).1 in
    rw (e1, no_algorithm is.after b1 is.next) refl
list_parts Means parse law q e i below is = signed_refused Means parse law q e i below is

pub list_found : (Means : ValueMeaning) (parse : ValueReading) → IsValueLaw Means parse → (e : X509Error) (i : List ℕ) → AllBelowBase 256 i → list_at parse i ≡ Err (named e) → ListRefused Means e i
list_found Means parse law e i below given =
    inside_told 16 (list_in parse) (list_by parse) (ListPartsRefused Means e) i e (list_same parse) below (λ q b told. list_told Means parse law q q.element.content e b told) given

pub list_only : (Means : ValueMeaning) (parse : ValueReading) → IsValueLaw Means parse → (e : X509Error) (i : List ℕ) → AllBelowBase 256 i → ListRefused Means e i → list_at parse i ≡ Err (named e)
list_only Means parse law e i below is =
    inside_only 16 (list_in parse) (list_by parse) (ListPartsRefused Means e) i e (list_same parse) below (λ q b none. list_parts Means parse law q e q.element.content b none) is
