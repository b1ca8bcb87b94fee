-- By which names certificates are refused.
use Rattle.std.proofs.Common.{◌≡◌, ◌⊎◌, inl, inr, refl, sym, subst, ℕ, List, Ok, Err}
use Rattle.std.specs.Int.Digits.{AllBelowBase}
use Rattle.asn1_any.specs.Cutting.{Piece}
use Rattle.x509_core.specs.Answers.{Answer, named, naming, ◌>>=◌}
use Rattle.x509_core.specs.Grammar.{NoneBegins, One, HoldsWindow}
use Rattle.x509_core.specs.Reading.{content_in}
use Rattle.x509_core.specs.declared.error.X509Error.{X509Error}
use Rattle.x509_core.specs.declared.error.X509Error.TheVariants as errors
use Rattle.x509_core.proofs.Grammars.{IsReading, next_reading}
use Rattle.x509_names.specs.Leaves.{IsBits}
use Rattle.x509_names.specs.Names.{AlgorithmIdentifier, X509Name, SubjectPublicKeyInfo}
use Rattle.x509_names.specs.Reading.{algorithm_at, name_at, key_at, bits_at}
use Rattle.x509_time.specs.Reading.{validity_at}
use Rattle.x509_time.specs.Times.{Validity}
use Rattle.x509_time.proofs.TimeLaws.{validity_reading}
use Rattle.x509_ext.specs.Fields.{ValueMeaning, ValueReading}
use Rattle.x509_ext.specs.Parts.{Version, IsSerial, UniqueIdentifier}
use Rattle.x509_ext.specs.Reading.{any_version_at, serial_at, id_at, extensions_at}
use Rattle.x509_ext.proofs.ExtensionLaws.{IsValueLaw}
use Rattle.x509_ext.proofs.PartLaws.{tagged_version_reading, serial_meaning, id_reading}
use Rattle.x509_certs.specs.Certificates.{TbsParts, TbsCertificate}
use Rattle.x509_certs.specs.Fields.{Tbs, Certificate}
use Rattle.x509_certs.specs.Reading.{tbs_in, tbs_at, certificate_in, certificate_at}
use Rattle.x509_certs.proofs.CertificateLaws.{tbs_meaning}
use Rattle.x509_certs.proofs.Runs.{Ended, Named, Begun, end_by, names_by, begin_by, made, tbs_is}
use Rattle.laws_x509.specs.Refused.{Then, Inside, NoWrapper, Never}
use Rattle.laws_x509.specs.NameRefusals.{NoIdentifier, NoKeyBits}
use Rattle.laws_x509.specs.PartRefusals.{NoValidity}
use Rattle.laws_x509.specs.CertificateRefusals.{AfterSignature, TbsPartsRefused, TbsRefused, CertificatePartsRefused, CertificateRefused}
use Rattle.laws_x509.proofs.Steps.{which_step, part_step, named_step, none_told, inside_told, inside_only}
use Rattle.laws_x509.proofs.NameSteps.{bits, algorithms, names, keys, algorithm_told, no_algorithm, name_silent, key_told, key_only}
use Rattle.laws_x509.proofs.TimeSteps.{validity_told, no_validity}
use Rattle.laws_x509.proofs.ExtensionSteps.{wrapper_told, no_wrapper}

pub serials : IsReading (One IsSerial) serial_at
serials = next_reading IsSerial (λ q. content_in 2 q.element) serial_meaning

-- ---- the identifiers of both and the extensions

abbrev EndRefused : X509Error → List ℕ → Type 0
EndRefused errors.InvalidIssuerUID = NoneBegins (UniqueIdentifier 1)
EndRefused errors.InvalidSubjectUID = Then (UniqueIdentifier 1) (NoneBegins (UniqueIdentifier 2))
EndRefused errors.InvalidExtensions = Then (UniqueIdentifier 1) (Then (UniqueIdentifier 2) (NoWrapper 3))
EndRefused e = Never

end_told : (parse : ValueReading) (put : Ended) (i : List ℕ) (e : X509Error) → AllBelowBase 256 i → end_by parse put i ≡ Err (named e) → EndRefused e i
unfolding end_by
end_told parse put i e below given =
    elim (named_step (UniqueIdentifier 1) (id_at 1) (id_reading 1) errors.InvalidIssuerUID i _ e below given) [
      | inl here ↦ subst (λ z. EndRefused z i) (sym here.0) here.1
      | inr s1 ↦ elim (named_step (UniqueIdentifier 2) (id_at 2) (id_reading 2) errors.InvalidSubjectUID s1.after _ e s1.below s1.refused) [
        | inl here ↦ subst (λ z. EndRefused z i) (sym here.0) (record { value = s1.value; after = s1.after; begins = s1.begins; next = here.1 })
        | inr s2 ↦ elim (which_step (extensions_at parse 3 s2.after) _ e s2.refused) [
          | inl here ↦
              let is = wrapper_told parse 3 s2.after e s2.below here in
              subst (λ z. EndRefused z i) (sym is.0) (record {
                value = s1.value;
                after = s1.after;
                begins = s1.begins;
                next = record { value = s2.value; after = s2.after; begins = s2.begins; next = is.1 };
              })
          | inr last ↦ let wrong = last.2 in cc
        ]
      ]
    ]

end_only : (parse : ValueReading) (put : Ended) (e : X509Error) (i : List ℕ) → AllBelowBase 256 i → EndRefused e i → end_by parse put i ≡ Err (named e)
unfolding end_by
end_only parse put errors.InvalidIssuerUID i below is = rw (none_told (UniqueIdentifier 1) (id_at 1) (id_reading 1) errors.InvalidIssuerUID i below is) refl
end_only parse put errors.InvalidSubjectUID i below is =
    let e1 = (id_reading 1).only i is.value is.after below is.begins in
    let b1 = ((id_reading 1).found i is.value is.after below e1).1 in
    rw (e1, none_told (UniqueIdentifier 2) (id_at 2) (id_reading 2) errors.InvalidSubjectUID is.after b1 is.next) refl
end_only parse put errors.InvalidExtensions i below is =
    let e1 = (id_reading 1).only i is.value is.after below is.begins in
    let b1 = ((id_reading 1).found i is.value is.after below e1).1 in
    let e2 = (id_reading 2).only is.after is.next.value is.next.after b1 is.next.begins in
    let b2 = ((id_reading 2).found is.after is.next.value is.next.after b1 e2).1 in
    rw (e1, e2, no_wrapper parse 3 is.next.after b2 is.next.next) refl
end_only parse put e i below is = absurd is

-- ---- names, validity and key, and what comes after them

abbrev AfterNames : (List ℕ → Type 0) → List ℕ → Type 0
AfterNames Q = Then X509Name (Then Validity (Then X509Name (Then SubjectPublicKeyInfo Q)))

abbrev NamesRefused : X509Error → List ℕ → Type 0
NamesRefused errors.InvalidDate = Then X509Name NoValidity
NamesRefused errors.InvalidAlgorithmIdentifier = Then X509Name (Then Validity (Then X509Name (Inside 16 NoIdentifier)))
NamesRefused errors.InvalidSPKI = Then X509Name (Then Validity (Then X509Name NoKeyBits))
NamesRefused errors.InvalidIssuerUID = AfterNames (EndRefused errors.InvalidIssuerUID)
NamesRefused errors.InvalidSubjectUID = AfterNames (EndRefused errors.InvalidSubjectUID)
NamesRefused errors.InvalidExtensions = AfterNames (EndRefused errors.InvalidExtensions)
NamesRefused e = Never

end_placed : (e : X509Error) (i : List ℕ) → AfterNames (EndRefused e) i → NamesRefused e i
end_placed errors.InvalidIssuerUID i is = is
end_placed errors.InvalidSubjectUID i is = is
end_placed errors.InvalidExtensions i is = is
end_placed e i is = absurd is.next.next.next.next

names_told : (parse : ValueReading) (put : Named) (i : List ℕ) (e : X509Error) → AllBelowBase 256 i → names_by parse put i ≡ Err (named e) → NamesRefused e i
unfolding names_by
names_told parse put i e below given =
    elim (part_step X509Name name_at names i _ e below given) [
      | inl here ↦ absurd (name_silent i e below here)
      | inr s1 ↦ elim (part_step Validity validity_at validity_reading s1.after _ e s1.below s1.refused) [
        | inl here ↦
            let is = validity_told s1.after e s1.below here in
            subst (λ z. NamesRefused z i) (sym is.0) (record { value = s1.value; after = s1.after; begins = s1.begins; next = is.1 })
        | inr s2 ↦ elim (part_step X509Name name_at names s2.after _ e s2.below s2.refused) [
          | inl here ↦ absurd (name_silent s2.after e s2.below here)
          | inr s3 ↦ elim (part_step SubjectPublicKeyInfo key_at keys s3.after _ e s3.below s3.refused) [
            | inl here ↦ elim (key_told s3.after e s3.below here) [
              | inl is ↦ subst (λ z. NamesRefused z i) (sym is.0) (record {
                value = s1.value;
                after = s1.after;
                begins = s1.begins;
                next = record {
                  value = s2.value;
                  after = s2.after;
                  begins = s2.begins;
                  next = record { value = s3.value; after = s3.after; begins = s3.begins; next = is.1 };
                };
              })
              | inr is ↦ subst (λ z. NamesRefused z i) (sym is.0) (record {
                value = s1.value;
                after = s1.after;
                begins = s1.begins;
                next = record {
                  value = s2.value;
                  after = s2.after;
                  begins = s2.begins;
                  next = record { value = s3.value; after = s3.after; begins = s3.begins; next = is.1 };
                };
              })
            ]
            | inr s4 ↦ end_placed e i (record {
              value = s1.value;
              after = s1.after;
              begins = s1.begins;
              next = record {
                value = s2.value;
                after = s2.after;
                begins = s2.begins;
                next = record {
                  value = s3.value;
                  after = s3.after;
                  begins = s3.begins;
                  next = record {
                    value = s4.value;
                    after = s4.after;
                    begins = s4.begins;
                    next = end_told parse (put s1.value s2.value s3.value s4.value) s4.after e s4.below s4.refused;
                  };
                };
              };
            })
          ]
        ]
      ]
    ]

no_key : (parse : ValueReading) (put : Named) (e : X509Error) (i : List ℕ) → AllBelowBase 256 i → Then X509Name (Then Validity (Then X509Name (λ o. key_at o ≡ Err (named e)))) i → names_by parse put i ≡ Err (named e)
unfolding names_by
no_key parse put e i below is =
    let e1 = names.only i is.value is.after below is.begins in
    let b1 = (names.found i is.value is.after below e1).1 in
    let e2 = validity_reading.only is.after is.next.value is.next.after b1 is.next.begins in
    let b2 = (validity_reading.found is.after is.next.value is.next.after b1 e2).1 in
    let e3 = names.only is.next.after is.next.next.value is.next.next.after b2 is.next.next.begins in
    rw (e1, e2, e3, is.next.next.next) refl

-- what is so of all octets that P leaves
below_after : (i : List ℕ) → AllBelowBase 256 i → (Q R : List ℕ → Type 0) → ((o : List ℕ) → AllBelowBase 256 o → Q o → R o) → Then X509Name (Then Validity (Then X509Name Q)) i → Then X509Name (Then Validity (Then X509Name R)) i
below_after i below Q R go is =
    let b1 = (names.found i is.value is.after below (names.only i is.value is.after below is.begins)).1 in
    let b2 = (validity_reading.found is.after is.next.value is.next.after b1 (validity_reading.only is.after is.next.value is.next.after b1 is.next.begins)).1 in
    let e3 = names.only is.next.after is.next.next.value is.next.next.after b2 is.next.next.begins in
    let b3 = (names.found is.next.after is.next.next.value is.next.next.after b2 e3).1 in
    record {
      value = is.value;
      after = is.after;
      begins = is.begins;
      next = record {
        value = is.next.value;
        after = is.next.after;
        begins = is.next.begins;
        next = record {
          value = is.next.next.value;
          after = is.next.next.after;
          begins = is.next.next.begins;
          next = go is.next.next.after b3 is.next.next.next;
        };
      };
    }

names_end : (parse : ValueReading) (put : Named) (e : X509Error) (i : List ℕ) → AllBelowBase 256 i → AfterNames (EndRefused e) i → names_by parse put i ≡ Err (named e)
unfolding names_by
names_end parse put e i below is =
    let e1 = names.only i is.value is.after below is.begins in
    let b1 = (names.found i is.value is.after below e1).1 in
    let e2 = validity_reading.only is.after is.next.value is.next.after b1 is.next.begins in
    let b2 = (validity_reading.found is.after is.next.value is.next.after b1 e2).1 in
    let e3 = names.only is.next.after is.next.next.value is.next.next.after b2 is.next.next.begins in
    let b3 = (names.found is.next.after is.next.next.value is.next.next.after b2 e3).1 in
    let last = is.next.next.next in
    let e4 = keys.only is.next.next.after last.value last.after b3 last.begins in
    let b4 = (keys.found is.next.next.after last.value last.after b3 e4).1 in
    let end = end_only parse (put is.value is.next.value is.next.next.value last.value) e last.after b4 last.next in
    rw (e1, e2, e3, e4) end

names_only : (parse : ValueReading) (put : Named) (e : X509Error) (i : List ℕ) → AllBelowBase 256 i → NamesRefused e i → names_by parse put i ≡ Err (named e)
unfolding names_by
names_only parse put errors.InvalidDate i below is =
    let e1 = names.only i is.value is.after below is.begins in
    let b1 = (names.found i is.value is.after below e1).1 in
    rw (e1, no_validity is.after b1 is.next) refl
names_only parse put errors.InvalidAlgorithmIdentifier i below is =
    no_key parse put errors.InvalidAlgorithmIdentifier i below (below_after i below (Inside 16 NoIdentifier) (λ o. key_at o ≡ Err (named errors.InvalidAlgorithmIdentifier)) (key_only errors.InvalidAlgorithmIdentifier) is)
names_only parse put errors.InvalidSPKI i below is =
    no_key parse put errors.InvalidSPKI i below (below_after i below NoKeyBits (λ o. key_at o ≡ Err (named errors.InvalidSPKI)) (key_only errors.InvalidSPKI) is)
names_only parse put errors.InvalidIssuerUID i below is = names_end parse put errors.InvalidIssuerUID i below is
names_only parse put errors.InvalidSubjectUID i below is = names_end parse put errors.InvalidSubjectUID i below is
names_only parse put errors.InvalidExtensions i below is = names_end parse put errors.InvalidExtensions i below is
names_only parse put e i below is = absurd is

-- ---- all of the signed part

names_placed : (e : X509Error) (i : List ℕ) → AfterSignature (NamesRefused e) i → TbsPartsRefused e i
names_placed errors.InvalidAlgorithmIdentifier i is = inr is
names_placed errors.InvalidDate i is = is
names_placed errors.InvalidSPKI i is = is
names_placed errors.InvalidIssuerUID i is = is
names_placed errors.InvalidSubjectUID i is = is
names_placed errors.InvalidExtensions i is = is
names_placed e i is = absurd is.next.next.next

begin_told : (parse : ValueReading) (put : Begun) (i : List ℕ) (e : X509Error) → AllBelowBase 256 i → begin_by parse put i ≡ Err (named e) → TbsPartsRefused e i
unfolding begin_by
begin_told parse put i e below given =
    elim (named_step Version any_version_at tagged_version_reading errors.InvalidVersion i _ e below given) [
      | inl here ↦ subst (λ z. TbsPartsRefused z i) (sym here.0) here.1
      | inr s1 ↦ elim (named_step (One IsSerial) serial_at serials errors.InvalidSerial s1.after _ e s1.below s1.refused) [
        | inl here ↦ subst (λ z. TbsPartsRefused z i) (sym here.0) (record { value = s1.value; after = s1.after; begins = s1.begins; next = here.1 })
        | inr s2 ↦ elim (part_step AlgorithmIdentifier algorithm_at algorithms s2.after _ e s2.below s2.refused) [
          | inl here ↦
              let is = algorithm_told s2.after e s2.below here in
              subst (λ z. TbsPartsRefused z i) (sym is.0) (inl (record {
                value = s1.value;
                after = s1.after;
                begins = s1.begins;
                next = record { value = s2.value; after = s2.after; begins = s2.begins; next = is.1 };
              }))
          | inr s3 ↦ names_placed e i (record {
            value = s1.value;
            after = s1.after;
            begins = s1.begins;
            next = record {
              value = s2.value;
              after = s2.after;
              begins = s2.begins;
              next = record {
                value = s3.value;
                after = s3.after;
                begins = s3.begins;
                next = names_told parse (put s1.value s2.value s3.value) s3.after e s3.below s3.refused;
              };
            };
          })
        ]
      ]
    ]

begin_names : (parse : ValueReading) (put : Begun) (e : X509Error) (i : List ℕ) → AllBelowBase 256 i → AfterSignature (NamesRefused e) i → begin_by parse put i ≡ Err (named e)
unfolding begin_by
begin_names parse put e i below is =
    let e1 = tagged_version_reading.only i is.value is.after below is.begins in
    let b1 = (tagged_version_reading.found i is.value is.after below e1).1 in
    let e2 = serials.only is.after is.next.value is.next.after b1 is.next.begins in
    let b2 = (serials.found is.after is.next.value is.next.after b1 e2).1 in
    let last = is.next.next in
    let e3 = algorithms.only is.next.after last.value last.after b2 last.begins in
    let b3 = (algorithms.found is.next.after last.value last.after b2 e3).1 in
    rw (e1, e2, e3) (names_only parse (put is.value is.next.value last.value) e last.after b3 last.next)

begin_only : (parse : ValueReading) (put : Begun) (e : X509Error) (i : List ℕ) → AllBelowBase 256 i → TbsPartsRefused e i → begin_by parse put i ≡ Err (named e)
unfolding begin_by
begin_only parse put errors.InvalidVersion i below is = rw (none_told Version any_version_at tagged_version_reading errors.InvalidVersion i below is) refl
begin_only parse put errors.InvalidSerial i below is =
    let e1 = tagged_version_reading.only i is.value is.after below is.begins in
    let b1 = (tagged_version_reading.found i is.value is.after below e1).1 in
    rw (e1, none_told (One IsSerial) serial_at serials errors.InvalidSerial is.after b1 is.next) refl
begin_only parse put errors.InvalidAlgorithmIdentifier i below (inl is) =
    let e1 = tagged_version_reading.only i is.value is.after below is.begins in
    let b1 = (tagged_version_reading.found i is.value is.after below e1).1 in
    let e2 = serials.only is.after is.next.value is.next.after b1 is.next.begins in
    let b2 = (serials.found is.after is.next.value is.next.after b1 e2).1 in
    rw (e1, e2, no_algorithm is.next.after b2 is.next.next) refl
begin_only parse put errors.InvalidAlgorithmIdentifier i below (inr is) = begin_names parse put errors.InvalidAlgorithmIdentifier i below is
begin_only parse put errors.InvalidDate i below is = begin_names parse put errors.InvalidDate i below is
begin_only parse put errors.InvalidSPKI i below is = begin_names parse put errors.InvalidSPKI i below is
begin_only parse put errors.InvalidIssuerUID i below is = begin_names parse put errors.InvalidIssuerUID i below is
begin_only parse put errors.InvalidSubjectUID i below is = begin_names parse put errors.InvalidSubjectUID i below is
begin_only parse put errors.InvalidExtensions i below is = begin_names parse put errors.InvalidExtensions i below is
begin_only parse put e i below is = absurd is

pub tbs_found : (parse : ValueReading) (e : X509Error) (i : List ℕ) → AllBelowBase 256 i → tbs_at parse i ≡ Err (named e) → TbsRefused e i
tbs_found parse e i below given =
    inside_told 16 (tbs_in parse) (λ q. begin_by parse (made q.octets)) (TbsPartsRefused e) i e (tbs_is parse) below (λ q b told. begin_told parse (made q.octets) q.element.content e b told) given

pub tbs_only : (parse : ValueReading) (e : X509Error) (i : List ℕ) → AllBelowBase 256 i → TbsRefused e i → tbs_at parse i ≡ Err (named e)
tbs_only parse e i below is =
    inside_only 16 (tbs_in parse) (λ q. begin_by parse (made q.octets)) (TbsPartsRefused e) i e (tbs_is parse) below (λ q b none. begin_only parse (made q.octets) e q.element.content b none) is

-- ---- certificates

signed_parts : (Means : ValueMeaning) (parse : ValueReading) → IsValueLaw Means parse → IsReading (TbsCertificate Means) (tbs_at parse)
signed_parts Means parse law = next_reading (HoldsWindow 16 (TbsParts Means) (λ t. t.raw)) (tbs_in parse) (tbs_meaning Means parse law)

unfoldable certificate_by : ValueReading → Piece → List ℕ → Answer Certificate
certificate_by parse q content = do
  tbs ← tbs_at parse content
  algorithm ← algorithm_at tbs.1
  signature_value ← naming errors.InvalidSignatureValue (bits_at algorithm.1)
  Ok (record { tbs = tbs.0; algorithm = algorithm.0; signature_value = signature_value.0; raw = q.octets })

certificate_same : (parse : ValueReading) (q : Piece) → certificate_in parse q ≡ content_in 16 q.element >>= certificate_by parse q
unfolding certificate_in certificate_by
certificate_same parse q = refl

signed_placed : (Means : ValueMeaning) (e : X509Error) (i : List ℕ) → TbsRefused e i → CertificatePartsRefused Means e i
signed_placed Means errors.InvalidSignatureValue i is = absurd is.inner
signed_placed Means errors.InvalidAlgorithmIdentifier i is = inl is
signed_placed Means e i is = is

certificate_told : (Means : ValueMeaning) (parse : ValueReading) → IsValueLaw Means parse → (q : Piece) (i : List ℕ) (e : X509Error) → AllBelowBase 256 i → certificate_by parse q i ≡ Err (named e) → CertificatePartsRefused Means e i
unfolding certificate_by
certificate_told Means parse law q i e below given =
    elim (part_step (TbsCertificate Means) (tbs_at parse) (signed_parts Means parse law) i _ e below given) [
      | inl here ↦ signed_placed Means e i (tbs_found parse e i below here)
      | inr s1 ↦ elim (part_step AlgorithmIdentifier algorithm_at algorithms s1.after _ e s1.below s1.refused) [
        | inl here ↦
            let is = algorithm_told s1.after e s1.below here in
            subst (λ z. CertificatePartsRefused Means z i) (sym is.0) (inr (record { value = s1.value; after = s1.after; begins = s1.begins; next = is.1 }))
        | inr s2 ↦ elim (named_step (One IsBits) bits_at bits errors.InvalidSignatureValue s2.after _ e s2.below s2.refused) [
          | inl here ↦ subst (λ z. CertificatePartsRefused Means z i) (sym here.0) (record {
            value = s1.value;
            after = s1.after;
            begins = s1.begins;
            next = record { value = s2.value; after = s2.after; begins = s2.begins; next = here.1 };
          })
          | inr last ↦ let wrong = last.refused in cc
        ]
      ]
    ]

signed_refused : (parse : ValueReading) (q : Piece) (e : X509Error) (i : List ℕ) → AllBelowBase 256 i → TbsRefused e i → certificate_by parse q i ≡ Err (named e)
unfolding certificate_by
signed_refused parse q e i below is = rw (tbs_only parse e i below is) refl

certificate_parts : (Means : ValueMeaning) (parse : ValueReading) → IsValueLaw Means parse → (q : Piece) (e : X509Error) (i : List ℕ) → AllBelowBase 256 i → CertificatePartsRefused Means e i → certificate_by parse q i ≡ Err (named e)
unfolding certificate_by
certificate_parts Means parse law q errors.InvalidSignatureValue i below is =
    let e1 = (signed_parts Means parse law).only i is.value is.after below is.begins in
    let b1 = ((signed_parts Means parse law).found i is.value is.after below e1).1 in
    let e2 = algorithms.only is.after is.next.value is.next.after b1 is.next.begins in
    let b2 = (algorithms.found is.after is.next.value is.next.after b1 e2).1 in
    rw (e1, e2, none_told (One IsBits) bits_at bits errors.InvalidSignatureValue is.next.after b2 is.next.next) refl
certificate_parts Means parse law q errors.InvalidAlgorithmIdentifier i below (inl is) = signed_refused parse q errors.InvalidAlgorithmIdentifier i below is
certificate_parts Means parse law q errors.InvalidAlgorithmIdentifier i below (inr is) =
    let e1 = (signed_parts Means parse law).only i is.value is.after below is.begins in
    let b1 = ((signed_parts Means parse law).found i is.value is.after below e1).1 in
    rw (e1, no_algorithm is.after b1 is.next) refl
certificate_parts Means parse law q e i below is = signed_refused parse q e i below is

pub certificate_found : (Means : ValueMeaning) (parse : ValueReading) → IsValueLaw Means parse → (e : X509Error) (i : List ℕ) → AllBelowBase 256 i → certificate_at parse i ≡ Err (named e) → CertificateRefused Means e i
certificate_found Means parse law e i below given =
    inside_told 16 (certificate_in parse) (certificate_by parse) (CertificatePartsRefused Means e) i e (certificate_same parse) below (λ q b told. certificate_told Means parse law q q.element.content e b told) given

pub certificate_only : (Means : ValueMeaning) (parse : ValueReading) → IsValueLaw Means parse → (e : X509Error) (i : List ℕ) → AllBelowBase 256 i → CertificateRefused Means e i → certificate_at parse i ≡ Err (named e)
certificate_only Means parse law e i below is =
    inside_only 16 (certificate_in parse) (certificate_by parse) (CertificatePartsRefused Means e) i e (certificate_same parse) below (λ q b none. certificate_parts Means parse law q e q.element.content b none) is
