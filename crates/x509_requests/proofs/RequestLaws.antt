-- Readers of requests take what the relations say, and no more.
use Rattle.std.proofs.Common.{◌≡◌, ◌∙◌, refl, sym, ap, subst, ℕ, List, [], ◌++◌, append-nil, Result, Ok, Err, IfOk, Bor}
use Rattle.std.specs.Int.Digits.{AllBelowBase}
use Rattle.asn1_core.specs.declared.outcome.Err.{Err as Refusal}
use Rattle.x509_core.specs.Answers.{naming}
use Rattle.x509_core.specs.Grammar.{One, HoldsWindow, Holds, HoldsWhole}
use Rattle.x509_core.specs.Reading.{content_in}
use Rattle.x509_core.specs.declared.error.X509Error.{X509Error}
use Rattle.x509_core.specs.declared.error.X509Error.TheVariants as errors
use Rattle.x509_core.proofs.Grammars.{IsMeaning, IsReading, next_reading, two, was_named, content_below}
use Rattle.x509_names.specs.Leaves.{IsBits}
use Rattle.x509_names.specs.Names.{AlgorithmParts, AlgorithmIdentifier, NameParts, X509Name, KeyParts, SubjectPublicKeyInfo}
use Rattle.x509_names.specs.Reading.{algorithm_in, algorithm_at, name_in, name_at, key_in, key_at, bits_in, bits_at}
use Rattle.x509_names.proofs.KeyLaws.{key_meaning}
use Rattle.x509_names.proofs.LeafLaws.{content_found, content_only, bits_meaning}
use Rattle.x509_names.proofs.NameLaws.{algorithm_meaning, name_meaning}
use Rattle.x509_ext.specs.Fields.{ValueMeaning, ValueReading}
use Rattle.x509_ext.specs.Reading.{version_at}
use Rattle.x509_ext.proofs.ExtensionLaws.{IsValueLaw}
use Rattle.x509_ext.proofs.PartLaws.{version_reading}
use Rattle.x509_requests.specs.Fields.{RequestInfo, Request}
use Rattle.x509_requests.specs.Reading.{attributes_at, info_in, info_at, request_in}
use Rattle.x509_requests.specs.Requests.{InfoParts, X509CertificationRequestInfo, RequestParts, X509CertificationRequest}
use Rattle.x509_requests.specs.View.{info_view, request_view}
use Rattle.x509_requests.specs.declared.info.X509CertificationRequestInfo.{X509CertificationRequestInfo as Signed}
use Rattle.x509_requests.specs.declared.request.X509CertificationRequest.{X509CertificationRequest as Whole}
use Rattle.x509_requests.proofs.AttributeLaws.{attributes_found, attributes_only, attributes_end}

algorithms : IsReading AlgorithmIdentifier algorithm_at
algorithms = next_reading (Holds 16 AlgorithmParts) (λ q. algorithm_in q.element) algorithm_meaning

names : IsReading X509Name name_at
names = next_reading (HoldsWindow 16 NameParts (λ n. n.raw)) name_in name_meaning

keys : IsReading SubjectPublicKeyInfo key_at
keys = next_reading (HoldsWindow 16 KeyParts (λ k. k.raw)) key_in key_meaning

bits : IsReading (One IsBits) bits_at
bits = next_reading IsBits (λ q. bits_in q.element) bits_meaning

-- ---- the signed part

pub info_meaning : (Means : ValueMeaning) (parse : ValueReading) → IsValueLaw Means parse → IsMeaning (HoldsWindow 16 (InfoParts Means) (λ r. r.raw)) (info_in parse)
unfolding info_in
info_meaning Means parse law = record {
  found = λ q v spells below given.
      let content = two (content_in 16 q.element) _ v given in
      let tag = content_found 16 q.element content.0 content.1 in
      let inner : AllBelowBase 256 content.0 = subst (AllBelowBase 256) tag.1 (content_below q spells below) in
      let s1 = two (version_at content.0) _ v content.2 in
      let p1 = version_reading.found content.0 s1.0.0 s1.0.1 inner s1.1 in
      let s2 = two (name_at s1.0.1) _ v s1.2 in
      let p2 = names.found s1.0.1 s2.0.0 s2.0.1 p1.1 s2.1 in
      let s3 = two (key_at s2.0.1) _ v s2.2 in
      let p3 = keys.found s2.0.1 s3.0.0 s3.0.1 p2.1 s3.1 in
      let s4 = two (attributes_at parse s3.0.1) _ v s3.2 in
      let p4 = attributes_found Means parse law s3.0.1 s4.0 p3.1 s4.1 in
      let here : RequestInfo = record { version = s1.0.0; subject = s2.0.0; key = s3.0.0; attributes = s4.0; raw = q.octets } in
      let same : ◌≡◌ {A = RequestInfo} here v = let last = s4.2 in cc in
      let parts : InfoParts Means content.0 here [] = record { after_version = s1.0.1; version = p1.0; after_subject = s2.0.1; subject = p2.0; after_key = s3.0.1; key = p3.0; attributes = p4 } in
      subst (HoldsWindow 16 (InfoParts Means) (λ r. r.raw) q) same (record {
        left = [];
        inside = record { tag = tag.0; inner = subst (λ z. InfoParts Means z here []) (sym tag.1) parts };
        window = sym (append-nil q.octets);
      });
  only = λ q v spells below is.
      let parts = is.inside.inner in
      let b0 = content_below q spells below in
      let e1 = version_reading.only q.element.content v.version parts.after_version b0 parts.version in
      let b1 = (version_reading.found q.element.content v.version parts.after_version b0 e1).1 in
      let e2 = names.only parts.after_version v.subject parts.after_subject b1 parts.subject in
      let b2 = (names.found parts.after_version v.subject parts.after_subject b1 e2).1 in
      let e3 = keys.only parts.after_subject v.key parts.after_key b2 parts.key in
      let b3 = (keys.found parts.after_subject v.key parts.after_key b2 e3).1 in
      let e4 = attributes_only Means parse law parts.after_key v.attributes is.left b3 parts.attributes in
      let whole : q.octets ≡ v.raw = is.window ∙ ap (λ z. v.raw ++ z) (attributes_end Means parts.after_key v.attributes is.left parts.attributes) ∙ append-nil v.raw in
      rw (content_only 16 q.element is.inside.tag, e1, e2, e3, e4, whole) refl;
}

-- ---- the request

pub request_meaning : (Means : ValueMeaning) (parse : ValueReading) → IsValueLaw Means parse → IsMeaning (HoldsWhole 16 (RequestParts Means) (λ r. r.raw)) (request_in parse)
unfolding request_in
request_meaning Means parse law = record {
  found = λ q v spells below given.
      let signed = next_reading (HoldsWindow 16 (InfoParts Means) (λ r. r.raw)) (info_in parse) (info_meaning Means parse law) in
      let content = two (content_in 16 q.element) _ v given in
      let tag = content_found 16 q.element content.0 content.1 in
      let inner : AllBelowBase 256 content.0 = subst (AllBelowBase 256) tag.1 (content_below q spells below) in
      let s1 = two (info_at parse content.0) _ v content.2 in
      let p1 = signed.found content.0 s1.0.0 s1.0.1 inner s1.1 in
      let s2 = two (algorithm_at s1.0.1) _ v s1.2 in
      let p2 = algorithms.found s1.0.1 s2.0.0 s2.0.1 p1.1 s2.1 in
      let s3 = two (naming errors.InvalidSignatureValue (bits_at s2.0.1)) _ v s2.2 in
      let p3 = bits.found s2.0.1 s3.0.0 s3.0.1 p2.1 (was_named _ _ _ s3.1) in
      let here : Request = record { info = s1.0.0; algorithm = s2.0.0; signature_value = s3.0.0; raw = q.octets } in
      let same : ◌≡◌ {A = Request} here v = cc in
      let parts : RequestParts Means content.0 here s3.0.1 = record { after_info = s1.0.1; info = p1.0; after_algorithm = s2.0.1; signature_algorithm = p2.0; signature_value = p3.0 } in
      subst (HoldsWhole 16 (RequestParts Means) (λ r. r.raw) q) same (record {
        inside = (s3.0.1, record { tag = tag.0; inner = subst (λ z. RequestParts Means z here s3.0.1) (sym tag.1) parts });
        window = refl;
      });
  only = λ q v spells below is.
      let signed = next_reading (HoldsWindow 16 (InfoParts Means) (λ r. r.raw)) (info_in parse) (info_meaning Means parse law) in
      let parts = is.inside.1.inner in
      let b0 = content_below q spells below in
      let r1 : info_at parse q.element.content ≡ Ok (v.info, parts.after_info) = signed.only q.element.content v.info parts.after_info b0 parts.info in
      let b1 = (signed.found q.element.content v.info parts.after_info b0 r1).1 in
      let r2 : algorithm_at parts.after_info ≡ Ok (v.algorithm, parts.after_algorithm) = algorithms.only parts.after_info v.algorithm parts.after_algorithm b1 parts.signature_algorithm in
      let b2 = (algorithms.found parts.after_info v.algorithm parts.after_algorithm b1 r2).1 in
      let r3 : bits_at parts.after_algorithm ≡ Ok (v.signature_value, is.inside.0) = bits.only parts.after_algorithm v.signature_value is.inside.0 b2 parts.signature_value in
      rw (content_only 16 q.element is.inside.1.tag, r1, r2, r3, sym is.window) refl;
}

-- ---- what readers promise

pub request_window : (Means : ValueMeaning) (i : List ℕ) (answer : Result (Bor (List ℕ) × Whole) (Refusal X509Error)) → IfOk answer (λ r. X509CertificationRequest Means i (request_view r.1) r.0.now) → IfOk answer (λ r. i ≡ r.1.raw.now ++ r.0.now)
request_window Means i (Ok r) found = found.whole ∙ ap (λ z. z ++ r.0.now) (sym found.means.window)
request_window Means i (Err e) found = tt

pub info_window : (Means : ValueMeaning) (i : List ℕ) (answer : Result (Bor (List ℕ) × Signed) (Refusal X509Error)) → IfOk answer (λ r. X509CertificationRequestInfo Means i (info_view r.1) r.0.now) → IfOk answer (λ r. i ≡ r.1.raw.now ++ r.0.now)
info_window Means i (Ok r) found =
    let parts = found.means.inside.inner in
    let end = attributes_end Means parts.after_key (info_view r.1).attributes found.means.left parts.attributes in
    let whole : found.piece.octets ≡ r.1.raw.now = found.means.window ∙ ap (λ z. r.1.raw.now ++ z) end ∙ append-nil r.1.raw.now in
    found.whole ∙ ap (λ z. z ++ r.0.now) whole
info_window Means i (Err e) found = tt
