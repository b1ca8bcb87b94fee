-- Certificates written out by hand are refused as the tables say.
use Rattle.std.proofs.Common.{◌≡◌, ◌≢◌, refl, ap, inl, inr, ℕ, ◌<◌, List, [], ◌∷◌, ◌++◌, true, false, None, lit<}
use Rattle.asn1_core.specs.Strict.{Head}
use Rattle.asn1_any.specs.Cutting.{Piece}
use Rattle.x509_core.specs.Grammar.{NoneBegins, One, HoldsWindow}
use Rattle.x509_core.specs.declared.error.X509Error.TheVariants as errors
use Rattle.x509_core.proofs.Grammars.{none_at_end}
use Rattle.x509_core.proofs.Items.{tlv, piece, spelled, one, header_is}
use Rattle.x509_names.specs.Examples.{algorithm, algorithm_octets, empty_name, empty_octets, key, key_octets}
use Rattle.x509_names.specs.Leaves.{IsBits}
use Rattle.x509_names.specs.Names.{AlgorithmIdentifier, X509Name, SubjectPublicKeyInfo}
use Rattle.x509_names.proofs.Items.{algorithm_is, empty_name_is, key_is}
use Rattle.x509_time.specs.Examples.{period, period_octets}
use Rattle.x509_time.specs.Times.{Validity}
use Rattle.x509_time.proofs.HeaderLaws.{one_head}
use Rattle.x509_time.proofs.Items.{period_is}
use Rattle.x509_ext.specs.Extensions.{absent}
use Rattle.x509_ext.specs.Fields.{IsUnparsed}
use Rattle.x509_ext.specs.Parts.{IsVersion, IsTaggedVersion, Version, version_at_end, version_absent, version_there, IsSerial, IsIdentifier, UniqueIdentifier, id_at_end, id_absent, id_there}
use Rattle.x509_certs.specs.Certificates.{TbsParts, TbsCertificate}
use Rattle.x509_certs.specs.Examples.{plain_tbs}
use Rattle.laws_x509.specs.Refused.{Then, Inside, NoWrapper}
use Rattle.laws_x509.specs.NameRefusals.{NoIdentifier, NoKeyBits}
use Rattle.laws_x509.specs.PartRefusals.{NoValidity}
use Rattle.laws_x509.specs.CertificateRefusals.{AfterSerial, AfterSignature, AfterIssuer, AfterSubject, AfterKey, TbsPartsRefused, TbsRefused, CertificatePartsRefused, CertificateRefused}
use Rattle.laws_x509.specs.RefusedOctets as refused
use Rattle.laws_x509.proofs.RefusedParts.{sequence, meant_here, no_identifier, no_key_algorithm, no_key_bits, no_start}
use Rattle.laws_x509.proofs.RefusedExtensions.{head, no_wrapper_there}

-- ---- parts that are there

pub serial_is : (rest : List ℕ) → One IsSerial (refused.before_signature ++ rest) (0x01 ∷ []) rest
serial_is rest = one IsSerial 0 false 2 (0x01 ∷ []) (0x01 ∷ []) rest (lit< tt) (lit< tt) (lit< tt) (record { tag = refl; content = refl })

-- no version stands before the serial number
version_is : (rest : List ℕ) → Version (refused.before_signature ++ rest) 0 (refused.before_signature ++ rest)
version_is rest =
    version_absent (record {
      piece = piece 0 false 2 (0x01 ∷ []);
      rest = rest;
      begins = one (λ p q. q ≡ p) 0 false 2 (0x01 ∷ []) (piece 0 false 2 (0x01 ∷ [])) rest (lit< tt) (lit< tt) (lit< tt) refl;
      tag = λ e. cc e;
    }) refl refl

after_serial : (Q : List ℕ → Type 0) (rest : List ℕ) → Q rest → AfterSerial Q (refused.before_signature ++ rest)
after_serial Q rest is = record {
  value = 0;
  after = refused.before_signature ++ rest;
  begins = version_is rest;
  next = record { value = 0x01 ∷ []; after = rest; begins = serial_is rest; next = is };
}

after_signature : (Q : List ℕ → Type 0) (rest : List ℕ) → Q rest → AfterSignature Q (refused.before_issuer ++ rest)
after_signature Q rest is = after_serial (Then AlgorithmIdentifier Q) (algorithm_octets ++ rest) (record { value = algorithm; after = rest; begins = algorithm_is rest; next = is })

after_issuer : (Q : List ℕ → Type 0) (rest : List ℕ) → Q rest → AfterIssuer Q (refused.before_validity ++ rest)
after_issuer Q rest is = after_signature (Then X509Name Q) (empty_octets ++ rest) (record { value = empty_name; after = rest; begins = empty_name_is rest; next = is })

after_subject : (Q : List ℕ → Type 0) (rest : List ℕ) → Q rest → AfterSubject Q (refused.before_key ++ rest)
after_subject Q rest is = after_issuer (Then Validity (Then X509Name Q)) (period_octets ++ (empty_octets ++ rest)) (record {
  value = period;
  after = empty_octets ++ rest;
  begins = period_is (empty_octets ++ rest);
  next = record { value = empty_name; after = rest; begins = empty_name_is rest; next = is };
})

after_key : (Q : List ℕ → Type 0) (rest : List ℕ) → Q rest → AfterKey Q (refused.before_ids ++ rest)
after_key Q rest is = after_subject (Then SubjectPublicKeyInfo Q) (key_octets ++ rest) (record { value = key; after = rest; begins = key_is rest; next = is })

-- ---- parts that aren't

abbrev untagged : List ℕ
untagged = 0xa0 ∷ 0x00 ∷ []

none_tagged : (v : ℕ) → IsTaggedVersion (piece 2 true 0 []) v → ⊥
none_tagged v is = none_at_end IsVersion v is.left is.number

none_version : NoneBegins Version untagged
none_version v r (version_at_end none zero left) = cc none
none_version v r (version_absent other zero left) =
    other.tag (ap (λ (p : Piece). p.element.tag) (meant_here (λ p (q : Piece). q ≡ p) (piece 2 true 0 []) [] (spelled 2 true 0 [] (lit< tt) (lit< tt) (lit< tt)) other.piece other.rest other.begins))
none_version v r (version_there is) = none_tagged v (meant_here IsTaggedVersion (piece 2 true 0 []) [] (spelled 2 true 0 [] (lit< tt) (lit< tt) (lit< tt)) v r is)

none_id : (n : ℕ) → n < 31 → NoneBegins (UniqueIdentifier n) (tlv 2 false n [])
none_id n in_tag v r (id_at_end none value left) = cc none
none_id n in_tag v r (id_absent other value left) =
    other.tag (ap (λ (h : Head). h.tag) (one_head (tlv 2 false n []) other.head (record { class = 2; constructed = false; tag = n; size = 0 }) other.after [] other.header (header_is 2 false n 0 [] (lit< tt) in_tag (lit< tt))))
none_id n in_tag v r (id_there b some is) =
    let means = meant_here (IsIdentifier n) (piece 2 false n []) [] (spelled 2 false n [] (lit< tt) in_tag (lit< tt)) b r is in
    cc means.bits.whole

-- an identifier of another tag number is next
second_id : UniqueIdentifier 1 (0x82 ∷ 0x00 ∷ []) None (0x82 ∷ 0x00 ∷ [])
second_id =
    id_absent (record {
      head = record { class = 2; constructed = false; tag = 2; size = 0 };
      after = [];
      header = header_is 2 false 2 0 [] (lit< tt) (lit< tt) (lit< tt);
      tag = λ e. cc e;
    }) refl refl

wrapper_id : (n : ℕ) → 4 ≢ n → UniqueIdentifier n refused.other_wrapper None refused.other_wrapper
wrapper_id n other = id_absent (record { head = head; after = []; header = header_is 2 true 4 0 [] (lit< tt) (lit< tt) (lit< tt); tag = other }) refl refl

-- ---- the signed part

pub no_version : TbsRefused errors.InvalidVersion refused.no_version
no_version = sequence (TbsPartsRefused errors.InvalidVersion) untagged [] (lit< tt) none_version

pub no_serial : TbsRefused errors.InvalidSerial refused.no_serial
no_serial = sequence (TbsPartsRefused errors.InvalidSerial) [] [] (lit< tt) (record { value = 0; after = []; begins = version_at_end refl refl refl; next = none_at_end IsSerial })

pub no_signature : TbsRefused errors.InvalidAlgorithmIdentifier refused.no_signature
no_signature = sequence (TbsPartsRefused errors.InvalidAlgorithmIdentifier) (refused.before_signature ++ refused.empty) [] (lit< tt) (inl (after_serial NoIdentifier refused.empty no_identifier))

pub no_validity : TbsRefused errors.InvalidDate refused.no_validity
no_validity = sequence (TbsPartsRefused errors.InvalidDate) (refused.before_validity ++ refused.empty) [] (lit< tt) (after_issuer NoValidity refused.empty no_start)

pub no_certified_algorithm : TbsRefused errors.InvalidAlgorithmIdentifier refused.no_certified_algorithm
no_certified_algorithm = sequence (TbsPartsRefused errors.InvalidAlgorithmIdentifier) (refused.before_key ++ refused.no_key_algorithm) [] (lit< tt) (inr (after_subject (Inside 16 NoIdentifier) refused.no_key_algorithm no_key_algorithm))

pub no_certified_bits : TbsRefused errors.InvalidSPKI refused.no_certified_bits
no_certified_bits = sequence (TbsPartsRefused errors.InvalidSPKI) (refused.before_key ++ refused.no_key_bits) [] (lit< tt) (after_subject NoKeyBits refused.no_key_bits no_key_bits)

pub no_issuer_id : TbsRefused errors.InvalidIssuerUID refused.no_issuer_id
no_issuer_id = sequence (TbsPartsRefused errors.InvalidIssuerUID) (refused.before_ids ++ 0x81 ∷ 0x00 ∷ []) [] (lit< tt) (after_key (NoneBegins (UniqueIdentifier 1)) (0x81 ∷ 0x00 ∷ []) (none_id 1 (lit< tt)))

pub no_subject_id : TbsRefused errors.InvalidSubjectUID refused.no_subject_id
no_subject_id = sequence (TbsPartsRefused errors.InvalidSubjectUID) (refused.before_ids ++ 0x82 ∷ 0x00 ∷ []) [] (lit< tt)
    (after_key (Then (UniqueIdentifier 1) (NoneBegins (UniqueIdentifier 2))) (0x82 ∷ 0x00 ∷ []) (record { value = None; after = 0x82 ∷ 0x00 ∷ []; begins = second_id; next = none_id 2 (lit< tt) }))

pub no_extensions : TbsRefused errors.InvalidExtensions refused.no_extensions
no_extensions = sequence (TbsPartsRefused errors.InvalidExtensions) (refused.before_ids ++ refused.other_wrapper) [] (lit< tt)
    (after_key (Then (UniqueIdentifier 1) (Then (UniqueIdentifier 2) (NoWrapper 3))) refused.other_wrapper (record {
      value = None;
      after = refused.other_wrapper;
      begins = wrapper_id 1 (λ e. cc e);
      next = record { value = None; after = refused.other_wrapper; begins = wrapper_id 2 (λ e. cc e); next = no_wrapper_there 3 (lit< tt) };
    }))

-- ---- the certificate

signed_parts : TbsParts IsUnparsed refused.before_ids (plain_tbs 0x02) []
signed_parts = record {
  after_version = refused.before_ids;
  version = version_is (algorithm_octets ++ (empty_octets ++ (period_octets ++ (empty_octets ++ key_octets))));
  after_serial = algorithm_octets ++ (empty_octets ++ (period_octets ++ (empty_octets ++ key_octets)));
  serial = serial_is (algorithm_octets ++ (empty_octets ++ (period_octets ++ (empty_octets ++ key_octets))));
  after_signature = empty_octets ++ (period_octets ++ (empty_octets ++ key_octets));
  signature = algorithm_is (empty_octets ++ (period_octets ++ (empty_octets ++ key_octets)));
  after_issuer = period_octets ++ (empty_octets ++ key_octets);
  issuer = empty_name_is (period_octets ++ (empty_octets ++ key_octets));
  after_validity = empty_octets ++ key_octets;
  validity = period_is (empty_octets ++ key_octets);
  after_subject = key_octets;
  subject = empty_name_is key_octets;
  after_key = [];
  key = key_is [];
  after_issuer_id = [];
  issuer_id = id_at_end refl refl refl;
  after_subject_id = [];
  subject_id = id_at_end refl refl refl;
  extensions = absent refl refl refl;
}

signed_is : (rest : List ℕ) → TbsCertificate IsUnparsed (refused.signed ++ rest) (plain_tbs 0x02) rest
signed_is rest = one (HoldsWindow 16 (TbsParts IsUnparsed) (λ t. t.raw)) 0 true 16 refused.before_ids (plain_tbs 0x02) rest (lit< tt) (lit< tt) (lit< tt)
    (record { left = []; inside = record { tag = refl; inner = signed_parts }; window = refl })

pub unnumbered : CertificateRefused IsUnparsed errors.InvalidSerial refused.unnumbered
unnumbered = sequence (CertificatePartsRefused IsUnparsed errors.InvalidSerial) refused.no_serial [] (lit< tt) no_serial

pub no_signature_algorithm : CertificateRefused IsUnparsed errors.InvalidAlgorithmIdentifier refused.no_signature_algorithm
no_signature_algorithm = sequence (CertificatePartsRefused IsUnparsed errors.InvalidAlgorithmIdentifier) (refused.signed ++ refused.empty) [] (lit< tt)
    (inr (record { value = plain_tbs 0x02; after = refused.empty; begins = signed_is refused.empty; next = no_identifier }))

pub no_signature_value : CertificateRefused IsUnparsed errors.InvalidSignatureValue refused.no_signature_value
no_signature_value = sequence (CertificatePartsRefused IsUnparsed errors.InvalidSignatureValue) (refused.signed ++ algorithm_octets) [] (lit< tt) (record {
  value = plain_tbs 0x02;
  after = algorithm_octets;
  begins = signed_is algorithm_octets;
  next = record { value = algorithm; after = []; begins = algorithm_is []; next = none_at_end IsBits };
})
