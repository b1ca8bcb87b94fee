-- Readers of certificates take what the relations say, and no more.
use Rattle.std.proofs.Common.{◌≡◌, ◌∙◌, refl, sym, ap, subst, ℕ, List, [], ◌++◌, append-nil, Option, Result, Ok, Err, IfOk, Bor}
use Rattle.std.specs.Int.Digits.{AllBelowBase}
use Rattle.asn1_core.specs.declared.error.Needed.TheVariants as needed
use Rattle.asn1_core.specs.declared.outcome.Err.{Err as Refusal}
use Rattle.asn1_core.specs.Reading.{header_at, identity_at}
use Rattle.asn1_any.specs.Reading.{der_element_at}
use Rattle.asn1_traits.specs.Elements.{EndsWithinElement}
use Rattle.x509_core.specs.Answers.{unnamed, naming, ◌>>=◌}
use Rattle.x509_core.specs.Grammar.{One, HoldsWindow, Holds, HoldsWhole}
use Rattle.x509_core.specs.Reading.{content_in}
use Rattle.x509_core.specs.declared.error.X509Error.{X509Error}
use Rattle.x509_core.specs.declared.error.X509Error.TheVariants as errors
use Rattle.x509_core.proofs.Grammars.{IsMeaning, IsReading, next_reading, two, was_named, content_below}
use Rattle.x509_core.proofs.Pieces.{empty_read}
use Rattle.x509_names.specs.Fields.{Algorithm, Name, Key, Bits}
use Rattle.x509_names.specs.Leaves.{IsBits}
use Rattle.x509_names.specs.Names.{AlgorithmParts, AlgorithmIdentifier, NameParts, X509Name, KeyParts, SubjectPublicKeyInfo}
use Rattle.x509_names.specs.Reading.{algorithm_in, algorithm_at, name_in, name_at, key_in, key_at, bits_in, bits_at}
use Rattle.x509_names.proofs.KeyLaws.{key_meaning}
use Rattle.x509_core.proofs.LeafLaws.{content_found, content_only}
use Rattle.x509_names.proofs.LeafLaws.{bits_meaning}
use Rattle.x509_names.proofs.NameLaws.{algorithm_meaning, name_meaning}
use Rattle.x509_time.specs.Reading.{validity_at}
use Rattle.x509_time.specs.Times.{Period, Validity}
use Rattle.x509_time.proofs.TimeLaws.{validity_reading}
use Rattle.x509_ext.specs.Extensions.{Extensions}
use Rattle.x509_ext.specs.Fields.{Extension, ValueMeaning, ValueReading}
use Rattle.x509_ext.specs.Parts.{Version, IsSerial, UniqueIdentifier}
use Rattle.x509_ext.specs.Reading.{any_version_at, serial_at, id_at, extensions_at}
use Rattle.x509_ext.proofs.ExtensionLaws.{IsValueLaw, extensions_found, extensions_only, extensions_end}
use Rattle.x509_ext.proofs.PartLaws.{tagged_version_reading, serial_meaning, id_reading}
use Rattle.x509_certs.specs.Certificates.{TbsParts, TbsCertificate, CertificateParts, X509Certificate}
use Rattle.x509_certs.specs.Fields.{Tbs, Certificate}
use Rattle.x509_certs.specs.Reading.{tbs_in, tbs_at, certificate_in, certificate_at}
use Rattle.x509_certs.specs.View.{tbs_view, certificate_view}
use Rattle.x509_certs.specs.declared.tbs.TbsCertificate.{TbsCertificate as Signed}
use Rattle.x509_certs.proofs.Runs.{Ended, Named, Begun, end_by, names_by, begin_by, made, tbs_is}
use Rattle.x509_certs.specs.declared.certificate.X509Certificate.{X509Certificate as Whole}

serials : IsReading (One IsSerial) serial_at
serials = next_reading IsSerial (λ q. content_in 2 q.element) serial_meaning

algorithms : IsReading AlgorithmIdentifier algorithm_at
algorithms = next_reading (Holds 16 AlgorithmParts) (λ q. algorithm_in q.element) algorithm_meaning

names : IsReading X509Name name_at
names = next_reading (HoldsWindow 16 NameParts (λ n. n.raw)) name_in name_meaning

keys : IsReading SubjectPublicKeyInfo key_at
keys = next_reading (HoldsWindow 16 KeyParts (λ k. k.raw)) key_in key_meaning

bits : IsReading (One IsBits) bits_at
bits = next_reading IsBits (λ q. bits_in q.element) bits_meaning

-- ---- the signed part, in three runs of parts

record End (Means : ValueMeaning) (put : Ended) (i : List ℕ) (v : Tbs) : Type 0 where
  issuer_id : Option Bits
  after_issuer_id : List ℕ
  first : UniqueIdentifier 1 i issuer_id after_issuer_id
  subject_id : Option Bits
  after_subject_id : List ℕ
  second : UniqueIdentifier 2 after_issuer_id subject_id after_subject_id
  extensions : List Extension
  last : Extensions Means 3 after_subject_id extensions []
  is : put issuer_id subject_id extensions ≡ v

end_found : (Means : ValueMeaning) (parse : ValueReading) → IsValueLaw Means parse → (put : Ended) (i : List ℕ) (v : Tbs) → AllBelowBase 256 i → end_by parse put i ≡ Ok v → End Means put i v
unfolding end_by
end_found Means parse law put i v below given =
    let s1 = two (naming errors.InvalidIssuerUID (id_at 1 i)) _ v given in
    let p1 = (id_reading 1).found i s1.0.0 s1.0.1 below (was_named _ _ _ s1.1) in
    let s2 = two (naming errors.InvalidSubjectUID (id_at 2 s1.0.1)) _ v s1.2 in
    let p2 = (id_reading 2).found s1.0.1 s2.0.0 s2.0.1 p1.1 (was_named _ _ _ s2.1) in
    let s3 = two (extensions_at parse 3 s2.0.1) _ v s2.2 in
    let same : put s1.0.0 s2.0.0 s3.0 ≡ v = cc in
    record {
      issuer_id = s1.0.0;
      after_issuer_id = s1.0.1;
      first = p1.0;
      subject_id = s2.0.0;
      after_subject_id = s2.0.1;
      second = p2.0;
      extensions = s3.0;
      last = extensions_found Means parse law 3 s2.0.1 s3.0 p2.1 s3.1;
      is = same;
    }

record NamesAndEnd (Means : ValueMeaning) (put : Named) (i : List ℕ) (v : Tbs) : Type 0 where
  issuer : Name
  after_issuer : List ℕ
  first : X509Name i issuer after_issuer
  validity : Period
  after_validity : List ℕ
  second : Validity after_issuer validity after_validity
  subject : Name
  after_subject : List ℕ
  third : X509Name after_validity subject after_subject
  key : Key
  after_key : List ℕ
  fourth : SubjectPublicKeyInfo after_subject key after_key
  end : End Means (put issuer validity subject key) after_key v

names_found : (Means : ValueMeaning) (parse : ValueReading) → IsValueLaw Means parse → (put : Named) (i : List ℕ) (v : Tbs) → AllBelowBase 256 i → names_by parse put i ≡ Ok v → NamesAndEnd Means put i v
unfolding names_by
names_found Means parse law put i v below given =
    let s1 = two (name_at i) _ v given in
    let p1 = names.found i s1.0.0 s1.0.1 below s1.1 in
    let s2 = two (validity_at s1.0.1) _ v s1.2 in
    let p2 = validity_reading.found s1.0.1 s2.0.0 s2.0.1 p1.1 s2.1 in
    let s3 = two (name_at s2.0.1) _ v s2.2 in
    let p3 = names.found s2.0.1 s3.0.0 s3.0.1 p2.1 s3.1 in
    let s4 = two (key_at s3.0.1) _ v s3.2 in
    let p4 = keys.found s3.0.1 s4.0.0 s4.0.1 p3.1 s4.1 in
    record {
      issuer = s1.0.0;
      after_issuer = s1.0.1;
      first = p1.0;
      validity = s2.0.0;
      after_validity = s2.0.1;
      second = p2.0;
      subject = s3.0.0;
      after_subject = s3.0.1;
      third = p3.0;
      key = s4.0.0;
      after_key = s4.0.1;
      fourth = p4.0;
      end = end_found Means parse law (put s1.0.0 s2.0.0 s3.0.0 s4.0.0) s4.0.1 v p4.1 s4.2;
    }

record BeginAndNames (Means : ValueMeaning) (put : Begun) (i : List ℕ) (v : Tbs) : Type 0 where
  version : ℕ
  after_version : List ℕ
  first : Version i version after_version
  serial : List ℕ
  after_serial : List ℕ
  second : One IsSerial after_version serial after_serial
  signature : Algorithm
  after_signature : List ℕ
  third : AlgorithmIdentifier after_serial signature after_signature
  names : NamesAndEnd Means (put version serial signature) after_signature v

begin_found : (Means : ValueMeaning) (parse : ValueReading) → IsValueLaw Means parse → (put : Begun) (i : List ℕ) (v : Tbs) → AllBelowBase 256 i → begin_by parse put i ≡ Ok v → BeginAndNames Means put i v
unfolding begin_by
begin_found Means parse law put i v below given =
    let s1 = two (naming errors.InvalidVersion (any_version_at i)) _ v given in
    let p1 = tagged_version_reading.found i s1.0.0 s1.0.1 below (was_named _ _ _ s1.1) in
    let s2 = two (naming errors.InvalidSerial (serial_at s1.0.1)) _ v s1.2 in
    let p2 = serials.found s1.0.1 s2.0.0 s2.0.1 p1.1 (was_named _ _ _ s2.1) in
    let s3 = two (algorithm_at s2.0.1) _ v s2.2 in
    let p3 = algorithms.found s2.0.1 s3.0.0 s3.0.1 p2.1 s3.1 in
    record {
      version = s1.0.0;
      after_version = s1.0.1;
      first = p1.0;
      serial = s2.0.0;
      after_serial = s2.0.1;
      second = p2.0;
      signature = s3.0.0;
      after_signature = s3.0.1;
      third = p3.0;
      names = names_found Means parse law (put s1.0.0 s2.0.0 s3.0.0) s3.0.1 v p3.1 s3.2;
    }

end_only : (Means : ValueMeaning) (parse : ValueReading) → IsValueLaw Means parse → (put : Ended) (i : List ℕ) (rest : List ℕ) (t : Tbs) → AllBelowBase 256 i
    → (r1 : List ℕ) → UniqueIdentifier 1 i t.issuer_id r1 → (r2 : List ℕ) → UniqueIdentifier 2 r1 t.subject_id r2 → Extensions Means 3 r2 t.extensions rest
    → end_by parse put i ≡ Ok (put t.issuer_id t.subject_id t.extensions)
unfolding end_by
end_only Means parse law put i rest t below r1 first r2 second last =
    let e1 = (id_reading 1).only i t.issuer_id r1 below first in
    let b1 = ((id_reading 1).found i t.issuer_id r1 below e1).1 in
    let e2 = (id_reading 2).only r1 t.subject_id r2 b1 second in
    let b2 = ((id_reading 2).found r1 t.subject_id r2 b1 e2).1 in
    rw (e1, e2, extensions_only Means parse law 3 r2 t.extensions rest b2 last) refl

names_only : (Means : ValueMeaning) (parse : ValueReading) → IsValueLaw Means parse → (put : Named) (rest : List ℕ) (t : Tbs) (octets : List ℕ) (is : TbsParts Means octets t rest) → AllBelowBase 256 is.after_signature
    → names_by parse put is.after_signature ≡ Ok (put t.issuer t.validity t.subject t.key t.issuer_id t.subject_id t.extensions)
unfolding names_by
names_only Means parse law put rest t octets is below =
    let e1 = names.only is.after_signature t.issuer is.after_issuer below is.issuer in
    let b1 = (names.found is.after_signature t.issuer is.after_issuer below e1).1 in
    let e2 = validity_reading.only is.after_issuer t.validity is.after_validity b1 is.validity in
    let b2 = (validity_reading.found is.after_issuer t.validity is.after_validity b1 e2).1 in
    let e3 = names.only is.after_validity t.subject is.after_subject b2 is.subject in
    let b3 = (names.found is.after_validity t.subject is.after_subject b2 e3).1 in
    let e4 = keys.only is.after_subject t.key is.after_key b3 is.key in
    let b4 = (keys.found is.after_subject t.key is.after_key b3 e4).1 in
    let end = end_only Means parse law (put t.issuer t.validity t.subject t.key) is.after_key rest t b4 is.after_issuer_id is.issuer_id is.after_subject_id is.subject_id is.extensions in
    rw (e1, e2, e3, e4) end

begin_only : (Means : ValueMeaning) (parse : ValueReading) → IsValueLaw Means parse → (put : Begun) (octets rest : List ℕ) (t : Tbs) (is : TbsParts Means octets t rest) → AllBelowBase 256 octets
    → begin_by parse put octets ≡ Ok (put t.version t.serial t.signature t.issuer t.validity t.subject t.key t.issuer_id t.subject_id t.extensions)
unfolding begin_by
begin_only Means parse law put octets rest t is below =
    let e1 = tagged_version_reading.only octets t.version is.after_version below is.version in
    let b1 = (tagged_version_reading.found octets t.version is.after_version below e1).1 in
    let e2 = serials.only is.after_version t.serial is.after_serial b1 is.serial in
    let b2 = (serials.found is.after_version t.serial is.after_serial b1 e2).1 in
    let e3 = algorithms.only is.after_serial t.signature is.after_signature b2 is.signature in
    let b3 = (algorithms.found is.after_serial t.signature is.after_signature b2 e3).1 in
    rw (e1, e2, e3) (names_only Means parse law (put t.version t.serial t.signature) rest t octets is b3)

pub tbs_meaning : (Means : ValueMeaning) (parse : ValueReading) → IsValueLaw Means parse → IsMeaning (HoldsWindow 16 (TbsParts Means) (λ t. t.raw)) (tbs_in parse)
tbs_meaning Means parse law = record {
  found = λ q v spells below given.
      let content = two (content_in 16 q.element) (begin_by parse (made q.octets)) v (sym (tbs_is parse q) ∙ given) in
      let tag = content_found 16 q.element content.0 content.1 in
      let inner : AllBelowBase 256 content.0 = subst (AllBelowBase 256) tag.1 (content_below q spells below) in
      let b = begin_found Means parse law (made q.octets) content.0 v inner content.2 in
      let n = b.names in
      let e = n.end in
      let here : Tbs = made q.octets b.version b.serial b.signature n.issuer n.validity n.subject n.key e.issuer_id e.subject_id e.extensions in
      let parts : TbsParts Means content.0 here [] = record {
        after_version = b.after_version;
        version = b.first;
        after_serial = b.after_serial;
        serial = b.second;
        after_signature = b.after_signature;
        signature = b.third;
        after_issuer = n.after_issuer;
        issuer = n.first;
        after_validity = n.after_validity;
        validity = n.second;
        after_subject = n.after_subject;
        subject = n.third;
        after_key = n.after_key;
        key = n.fourth;
        after_issuer_id = e.after_issuer_id;
        issuer_id = e.first;
        after_subject_id = e.after_subject_id;
        subject_id = e.second;
        extensions = e.last;
      } in
      subst (HoldsWindow 16 (TbsParts Means) (λ t. t.raw) q) e.is (record {
        left = [];
        inside = record { tag = tag.0; inner = subst (λ z. TbsParts Means z here []) (sym tag.1) parts };
        window = sym (append-nil q.octets);
      });
  only = λ q v spells below is.
      let parts = is.inside.inner in
      let begun = begin_only Means parse law (made q.octets) q.element.content is.left v parts (content_below q spells below) in
      let whole : q.octets ≡ v.raw = is.window ∙ ap (λ z. v.raw ++ z) (extensions_end Means 3 parts.after_subject_id v.extensions is.left parts.extensions) ∙ append-nil v.raw in
      tbs_is parse q ∙ ap (λ z. z >>= begin_by parse (made q.octets)) (content_only 16 q.element is.inside.tag) ∙ begun
      ∙ ap (λ z. Ok (made z v.version v.serial v.signature v.issuer v.validity v.subject v.key v.issuer_id v.subject_id v.extensions)) whole;
}

-- ---- the certificate

pub certificate_meaning : (Means : ValueMeaning) (parse : ValueReading) → IsValueLaw Means parse → IsMeaning (HoldsWhole 16 (CertificateParts Means) (λ c. c.raw)) (certificate_in parse)
unfolding certificate_in
certificate_meaning Means parse law = record {
  found = λ q v spells below given.
      let signed = next_reading (HoldsWindow 16 (TbsParts Means) (λ t. t.raw)) (tbs_in parse) (tbs_meaning Means parse law) in
      let content = two (content_in 16 q.element) _ v given in
      let tag = content_found 16 q.element content.0 content.1 in
      let inner : AllBelowBase 256 content.0 = subst (AllBelowBase 256) tag.1 (content_below q spells below) in
      let s1 = two (tbs_at parse content.0) _ v content.2 in
      let p1 = signed.found content.0 s1.0.0 s1.0.1 inner s1.1 in
      let s2 = two (algorithm_at s1.0.1) _ v s1.2 in
      let p2 = algorithms.found s1.0.1 s2.0.0 s2.0.1 p1.1 s2.1 in
      let s3 = two (naming errors.InvalidSignatureValue (bits_at s2.0.1)) _ v s2.2 in
      let p3 = bits.found s2.0.1 s3.0.0 s3.0.1 p2.1 (was_named _ _ _ s3.1) in
      let here : Certificate = record { tbs = s1.0.0; algorithm = s2.0.0; signature_value = s3.0.0; raw = q.octets } in
      let same : ◌≡◌ {A = Certificate} here v = cc in
      let parts : CertificateParts Means content.0 here s3.0.1 = record { after_tbs = s1.0.1; tbs = p1.0; after_algorithm = s2.0.1; signature_algorithm = p2.0; signature_value = p3.0 } in
      subst (HoldsWhole 16 (CertificateParts Means) (λ c. c.raw) q) same (record {
        inside = (s3.0.1, record { tag = tag.0; inner = subst (λ z. CertificateParts Means z here s3.0.1) (sym tag.1) parts });
        window = refl;
      });
  only = λ q v spells below is.
      let signed = next_reading (HoldsWindow 16 (TbsParts Means) (λ t. t.raw)) (tbs_in parse) (tbs_meaning Means parse law) in
      let parts = is.inside.1.inner in
      let b0 = content_below q spells below in
      let r1 : tbs_at parse q.element.content ≡ Ok (v.tbs, parts.after_tbs) = signed.only q.element.content v.tbs parts.after_tbs b0 parts.tbs in
      let b1 = (signed.found q.element.content v.tbs parts.after_tbs b0 r1).1 in
      let r2 : algorithm_at parts.after_tbs ≡ Ok (v.algorithm, parts.after_algorithm) = algorithms.only parts.after_tbs v.algorithm parts.after_algorithm b1 parts.signature_algorithm in
      let b2 = (algorithms.found parts.after_tbs v.algorithm parts.after_algorithm b1 r2).1 in
      let r3 : bits_at parts.after_algorithm ≡ Ok (v.signature_value, is.inside.0) = bits.only parts.after_algorithm v.signature_value is.inside.0 b2 parts.signature_value in
      rw (content_only 16 q.element is.inside.1.tag, r1, r2, r3, sym is.window) refl;
}

-- ---- what readers promise

pub certificate_window : (Means : ValueMeaning) (i : List ℕ) (answer : Result (Bor (List ℕ) × Whole) (Refusal X509Error)) → IfOk answer (λ r. X509Certificate Means i (certificate_view r.1) r.0.now) → IfOk answer (λ r. i ≡ r.1.raw.now ++ r.0.now)
certificate_window Means i (Ok r) found = found.whole ∙ ap (λ z. z ++ r.0.now) (sym found.means.window)
certificate_window Means i (Err e) found = tt

pub tbs_window : (Means : ValueMeaning) (i : List ℕ) (answer : Result (Bor (List ℕ) × Signed) (Refusal X509Error)) → IfOk answer (λ r. TbsCertificate Means i (tbs_view r.1) r.0.now) → IfOk answer (λ r. i ≡ r.1.raw.now ++ r.0.now)
tbs_window Means i (Ok r) found =
    let parts = found.means.inside.inner in
    let end = extensions_end Means 3 parts.after_subject_id (tbs_view r.1).extensions found.means.left parts.extensions in
    let whole : found.piece.octets ≡ r.1.raw.now = found.means.window ∙ ap (λ z. r.1.raw.now ++ z) end ∙ append-nil r.1.raw.now in
    found.whole ∙ ap (λ z. z ++ r.0.now) whole
tbs_window Means i (Err e) found = tt

-- of no octets one is missing at least
pub one_missing : (i : List ℕ) → i ≡ [] → EndsWithinElement i (needed.Size 1)
unfolding der_element_at header_at identity_at
one_missing i none = rw none refl

pub none_there : (parse : ValueReading) (i : List ℕ) → i ≡ [] → certificate_at parse i ≡ Err unnamed
none_there parse i none = ap (λ z. z >>= λ e. (certificate_in parse e.0 >>= λ v. Ok (v, e.1))) (empty_read i none)
