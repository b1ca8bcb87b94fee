-- Strict certificates are what the lenient grammar says.
use Rattle.std.proofs.Common.{◌≡◌, refl, sym, subst, arith, ℕ, ◌<◌, ◌^◌, List, [], ◌∷◌, ◌++◌, true, length, lit<, append-nil}
use Rattle.std.specs.List.{concat}
use Rattle.asn1_core.specs.Elements.{Element, element_octets}
use Rattle.cert_model.specs.Fields.{Certificate}
use Rattle.cert_model.specs.Octets.{optional_octets, number_octets, implicit_bits_octets, bit_field_octets, algorithm_octets, name_octets, key_octets, validity_octets, version_octets, tagged_extensions_octets, tbs_certificate_octets, certificate_octets}
use Rattle.cert_model.specs.Range.{AreCertificateFields}
use Rattle.x509_core.specs.Grammar.{HoldsWindow, HoldsWhole}
use Rattle.x509_certs.specs.Shared.{IsUnparsed}
use Rattle.x509_certs.specs.Certificates.{TbsParts, TbsCertificate, CertificateParts, X509Certificate}
use Rattle.x509_links.specs.Lenient.{lenient_tbs, lenient_certificate}
use Rattle.x509_links.proofs.Strict.{one_strict, content_small, two_small, algorithm_is, name_is, key_is, bits_is}
use Rattle.x509_links.proofs.StrictTimes.{validity_is}
use Rattle.x509_links.proofs.StrictParts.{version_is, serial_is, id_is, id_otherwise, tagged_otherwise, tagged_is}

tbs_parts : (c : Certificate) → AreCertificateFields c → (content : List ℕ) → length content < 2 ^ 64 →
    content ≡ concat (version_octets c.version ∷ number_octets c.serial ∷ algorithm_octets c.signature ∷ name_octets c.issuer ∷ validity_octets c.not_before c.not_after
    ∷ name_octets c.subject ∷ key_octets c.key ∷ optional_octets (implicit_bits_octets 1) c.issuer_id ∷ optional_octets (implicit_bits_octets 2) c.subject_id
    ∷ tagged_extensions_octets 3 c.extensions ∷ []) → TbsParts IsUnparsed content (lenient_tbs c) []
tbs_parts c range content small is =
    let r9 = tagged_extensions_octets 3 c.extensions ++ [] in
    let r8 = optional_octets (implicit_bits_octets 2) c.subject_id ++ r9 in
    let r7 = optional_octets (implicit_bits_octets 1) c.issuer_id ++ r8 in
    let r6 = key_octets c.key ++ r7 in
    let r5 = name_octets c.subject ++ r6 in
    let r4 = validity_octets c.not_before c.not_after ++ r5 in
    let r3 = name_octets c.issuer ++ r4 in
    let r2 = algorithm_octets c.signature ++ r3 in
    let r1 = number_octets c.serial ++ r2 in
    let s0 = two_small (version_octets c.version) r1 (subst (λ z. length z < 2 ^ 64) is small) in
    let s1 = two_small (number_octets c.serial) r2 s0.1 in
    let s2 = two_small (algorithm_octets c.signature) r3 s1.1 in
    let s3 = two_small (name_octets c.issuer) r4 s2.1 in
    let s4 = two_small (validity_octets c.not_before c.not_after) r5 s3.1 in
    let s5 = two_small (name_octets c.subject) r6 s4.1 in
    let s6 = two_small (key_octets c.key) r7 s5.1 in
    let s7 = two_small (optional_octets (implicit_bits_octets 1) c.issuer_id) r8 s6.1 in
    let s8 = two_small (optional_octets (implicit_bits_octets 2) c.subject_id) r9 s7.1 in
    let s9 = two_small (tagged_extensions_octets 3 c.extensions) [] s8.1 in
    let no_second = tagged_otherwise 2 3 c.extensions (lit< tt) (λ e. omega (arith, e)) s9.0 in
    let no_first = id_otherwise 1 2 c.subject_id r9 (lit< tt) (λ e. omega (arith, e)) s8.0 (tagged_otherwise 1 3 c.extensions (lit< tt) (λ e. omega (arith, e)) s9.0) in
    subst (λ z. TbsParts IsUnparsed z (lenient_tbs c) []) (sym is) (record {
      after_version = r1;
      version = version_is c.version c.serial r2 range.version s1.0;
      after_serial = r2;
      serial = serial_is c.serial r2 s1.0;
      after_signature = r3;
      signature = algorithm_is c.signature r3 range.signature s2.0;
      after_issuer = r4;
      issuer = name_is c.issuer r4 range.issuer s3.0;
      after_validity = r5;
      validity = validity_is c.not_before c.not_after r5 range.not_before range.not_after s4.0;
      after_subject = r6;
      subject = name_is c.subject r6 range.subject s5.0;
      after_key = r7;
      key = key_is c.key r7 range.key s6.0;
      after_issuer_id = r8;
      issuer_id = id_is 1 c.issuer_id r8 (lit< tt) range.issuer_id s7.0 no_first;
      after_subject_id = r9;
      subject_id = id_is 2 c.subject_id r9 (lit< tt) range.subject_id s8.0 no_second;
      extensions = tagged_is 3 c.extensions (lit< tt) range.extensions s9.0;
    })

pub tbs_is : (c : Certificate) (rest : List ℕ) → AreCertificateFields c → length (tbs_certificate_octets c) < 2 ^ 64 → TbsCertificate IsUnparsed (tbs_certificate_octets c ++ rest) (lenient_tbs c) rest
unfolding tbs_certificate_octets
tbs_is c rest range small =
    let content = concat (version_octets c.version ∷ number_octets c.serial ∷ algorithm_octets c.signature ∷ name_octets c.issuer ∷ validity_octets c.not_before c.not_after
    ∷ name_octets c.subject ∷ key_octets c.key ∷ optional_octets (implicit_bits_octets 1) c.issuer_id ∷ optional_octets (implicit_bits_octets 2) c.subject_id
    ∷ tagged_extensions_octets 3 c.extensions ∷ []) in
    let whole : Element = record { class = 0; constructed = true; tag = 16; content = content } in
    one_strict (HoldsWindow 16 (TbsParts IsUnparsed) (λ t. t.raw)) whole (lenient_tbs c) rest (lit< tt) (lit< tt) small (record {
      left = [];
      inside = record { tag = refl; inner = tbs_parts c range content (content_small whole small) refl };
      window = sym (append-nil (element_octets whole));
    })

pub certificate_is : (c : Certificate) (rest : List ℕ) → AreCertificateFields c → length (certificate_octets c) < 2 ^ 64 → X509Certificate IsUnparsed (certificate_octets c ++ rest) (lenient_certificate c) rest
unfolding certificate_octets
certificate_is c rest range small =
    let last = bit_field_octets c.signature_value ++ [] in
    let middle = algorithm_octets c.algorithm ++ last in
    let whole : Element = record { class = 0; constructed = true; tag = 16; content = tbs_certificate_octets c ++ middle } in
    let s0 = two_small (tbs_certificate_octets c) middle (content_small whole small) in
    let s1 = two_small (algorithm_octets c.algorithm) last s0.1 in
    let s2 = two_small (bit_field_octets c.signature_value) [] s1.1 in
    one_strict (HoldsWhole 16 (CertificateParts IsUnparsed) (λ d. d.raw)) whole (lenient_certificate c) rest (lit< tt) (lit< tt) small (record {
      inside = (
        [],
        record {
          tag = refl;
          inner = record {
            after_tbs = middle;
            tbs = tbs_is c middle range s0.0;
            after_algorithm = last;
            signature_algorithm = algorithm_is c.algorithm last range.algorithm s1.0;
            signature_value = bits_is c.signature_value [] range.signature_value s2.0;
          };
        },
      );
      window = refl;
    })
