-- A strict certificate that was read leniently has its own fields.
use Rattle.std.proofs.Common.{◌≡◌, ◌∙◌, refl, ap, subst, ℕ, zero, suc, ◌≤◌, min, true, List, [], ◌++◌, option_map, arith}
use Rattle.asn1_core.specs.Elements.{Element}
use Rattle.cert_model.specs.Fields.{Certificate}
use Rattle.cert_model.specs.Octets.{optional_octets, number_octets, implicit_bits_octets, bit_field_octets, algorithm_octets, name_octets, key_octets, validity_octets, version_octets, tagged_extensions_octets, tbs_certificate_octets, certificate_octets}
use Rattle.cert_model.specs.Range.{AreCertificateFields}
use Rattle.x509_links.specs.Readers.{certificate_view, X509Certificate}
use Rattle.x509_links.specs.Lenient.{lenient_certificate}
use Rattle.x509_links.proofs.StrictTimes.{one_time_is}
use Rattle.certpath_typed.specs.Told.{TellsAlgorithm, TellsName, told_bits, TellsKey, TellsExtensions}
use Rattle.certpath_typed.specs.ToldItems.{TellsCertificate}
use Rattle.certpath_typed.proofs.Standing.{Stands, Lifts, left, right, within, algorithm_told, name_told, key_told, tagged_told, ids_told}

-- equal parts are equal certificates
same_certificate : (a b : Certificate) → a.version ≡ b.version → a.serial ≡ b.serial → a.signature ≡ b.signature → a.issuer ≡ b.issuer → a.not_before ≡ b.not_before → a.not_after ≡ b.not_after
    → a.subject ≡ b.subject → a.key ≡ b.key → a.issuer_id ≡ b.issuer_id → a.subject_id ≡ b.subject_id → a.extensions ≡ b.extensions → a.algorithm ≡ b.algorithm → a.signature_value ≡ b.signature_value → a ≡ b
same_certificate a b version serial signature issuer not_before not_after subject key issuer_id subject_id extensions algorithm signature_value =
    λ i. record {
      version = version i;
      serial = serial i;
      signature = signature i;
      issuer = issuer i;
      not_before = not_before i;
      not_after = not_after i;
      subject = subject i;
      key = key i;
      issuer_id = issuer_id i;
      subject_id = subject_id i;
      extensions = extensions i;
      algorithm = algorithm i;
      signature_value = signature_value i;
    }

pub small_number : (v : ℕ) → v ≤ 2 → min v 255 ≡ v
small_number zero small = refl
small_number (suc zero) small = refl
small_number (suc (suc zero)) small = refl
small_number (suc (suc (suc v))) small = absurd (omega (arith, small))

tbs_lifts : (item : List ℕ) (c : Certificate) → certificate_octets c ≡ item → Lifts item (tbs_certificate_octets c)
unfolding certificate_octets
tbs_lifts item c is =
    let last = algorithm_octets c.algorithm ++ (bit_field_octets c.signature_value ++ []) in
    let whole : Element = record { class = 0; constructed = true; tag = 16; content = tbs_certificate_octets c ++ last } in
    λ o h. subst (Stands o) is (within o whole (left o (tbs_certificate_octets c) last h))

algorithm_lifts : (item : List ℕ) (c : Certificate) → certificate_octets c ≡ item → Lifts item (algorithm_octets c.algorithm)
unfolding certificate_octets
algorithm_lifts item c is =
    let last = bit_field_octets c.signature_value ++ [] in
    let middle = algorithm_octets c.algorithm ++ last in
    let whole : Element = record { class = 0; constructed = true; tag = 16; content = tbs_certificate_octets c ++ middle } in
    λ o h. subst (Stands o) is (within o whole (right o (tbs_certificate_octets c) middle (left o (algorithm_octets c.algorithm) last h)))

-- the parts of the signed part that hold identifiers
record Parts (item : List ℕ) (c : Certificate) : Type 0 where
  pub signature : Lifts item (algorithm_octets c.signature)
  pub issuer : Lifts item (name_octets c.issuer)
  pub subject : Lifts item (name_octets c.subject)
  pub key : Lifts item (key_octets c.key)
  pub extensions : Lifts item (tagged_extensions_octets 3 c.extensions)

parts_lift : (item : List ℕ) (c : Certificate) → Lifts item (tbs_certificate_octets c) → Parts item c
unfolding tbs_certificate_octets
parts_lift item c lift =
    let p0 = version_octets c.version in
    let p1 = number_octets c.serial in
    let p2 = algorithm_octets c.signature in
    let p3 = name_octets c.issuer in
    let p4 = validity_octets c.not_before c.not_after in
    let p5 = name_octets c.subject in
    let p6 = key_octets c.key in
    let p7 = optional_octets (implicit_bits_octets 1) c.issuer_id in
    let p8 = optional_octets (implicit_bits_octets 2) c.subject_id in
    let p9 = tagged_extensions_octets 3 c.extensions in
    let r9 = p9 ++ [] in
    let r8 = p8 ++ r9 in
    let r7 = p7 ++ r8 in
    let r6 = p6 ++ r7 in
    let r5 = p5 ++ r6 in
    let r4 = p4 ++ r5 in
    let r3 = p3 ++ r4 in
    let r2 = p2 ++ r3 in
    let r1 = p1 ++ r2 in
    let whole : Element = record { class = 0; constructed = true; tag = 16; content = p0 ++ r1 } in
    let in2 : Lifts item r2 = λ o h. lift o (within o whole (right o p0 r1 (right o p1 r2 h))) in
    let in3 : Lifts item r3 = λ o h. in2 o (right o p2 r3 h) in
    let in5 : Lifts item r5 = λ o h. in3 o (right o p3 r4 (right o p4 r5 h)) in
    let in6 : Lifts item r6 = λ o h. in5 o (right o p5 r6 h) in
    let in9 : Lifts item r9 = λ o h. in6 o (right o p6 r7 (right o p7 r8 (right o p8 r9 h))) in
    record {
      signature = λ o h. in2 o (left o p2 r3 h);
      issuer = λ o h. in3 o (left o p3 r4 h);
      subject = λ o h. in5 o (left o p5 r6 h);
      key = λ o h. in6 o (left o p6 r7 h);
      extensions = λ o h. in9 o (left o p9 [] h);
    }

pub certificate_told : (item : List ℕ) (c : Certificate) (r : X509Certificate) (told : Certificate) → AreCertificateFields c → certificate_octets c ≡ item → certificate_view r ≡ lenient_certificate c → TellsCertificate item r told → told ≡ c
certificate_told item c r told range spelled read tells =
    let parts = parts_lift item c (tbs_lifts item c spelled) in
    same_certificate told c
    (tells.version ∙ ap (λ z. min z.tbs.version 255) read ∙ small_number c.version range.version)
    (tells.serial ∙ ap (λ z. z.tbs.serial) read)
    (algorithm_told item c.signature told.signature parts.signature (subst (λ z. TellsAlgorithm item z.tbs.signature told.signature) read tells.signature))
    (name_told item c.issuer told.issuer parts.issuer (subst (λ z. TellsName item z.tbs.issuer told.issuer) read tells.issuer))
    (tells.not_before ∙ one_time_is c.not_before r.tbs_certificate.validity.not_before.time range.not_before (ap (λ z. z.tbs.validity.not_before.nanoseconds) read))
    (tells.not_after ∙ one_time_is c.not_after r.tbs_certificate.validity.not_after.time range.not_after (ap (λ z. z.tbs.validity.not_after.nanoseconds) read))
    (name_told item c.subject told.subject parts.subject (subst (λ z. TellsName item z.tbs.subject told.subject) read tells.subject))
    (key_told item c.key told.key parts.key (subst (λ z. TellsKey item z.tbs.key told.key) read tells.key))
    (tells.issuer_id ∙ ap (λ z. option_map told_bits z.tbs.issuer_id) read ∙ ids_told c.issuer_id)
    (tells.subject_id ∙ ap (λ z. option_map told_bits z.tbs.subject_id) read ∙ ids_told c.subject_id)
    (tagged_told item 3 c.extensions told.extensions parts.extensions (subst (λ z. TellsExtensions item z.tbs.extensions told.extensions) read tells.extensions))
    (algorithm_told item c.algorithm told.algorithm (algorithm_lifts item c spelled) (subst (λ z. TellsAlgorithm item z.algorithm told.algorithm) read tells.algorithm))
    (tells.signature_value ∙ ap (λ z. told_bits z.signature_value) read)
