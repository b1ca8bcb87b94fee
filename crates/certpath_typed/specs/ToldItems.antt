-- Which fields are made of certificates and lists that were read leniently of an item. These
-- relations retrace the code.
use Rattle.std.specs.Prelude.{◌≡◌, ℕ, min, List, map, option_map}
use Rattle.std.specs.List.{AllZip}
use Rattle.cert_model.specs.Fields.{Certificate, Entry, RevocationList}
use Rattle.cert_model.specs.View.{time_view}
use Rattle.x509_names.specs.View.{algorithm_view, name_view, key_view, bits_view}
use Rattle.x509_links.specs.Readers.{extension_view, identifier_view, X509Certificate, RevokedCertificate, CertificateRevocationList}
use Rattle.certpath_typed.specs.Told.{TellsAlgorithm, TellsName, told_bits, TellsKey, TellsExtensions}

pub record TellsCertificate (item : List ℕ) (c : X509Certificate) (told : Certificate) : Type 0 where
  pub version : told.version ≡ min c.tbs_certificate.version.0 255
  pub serial : told.serial ≡ c.tbs_certificate.raw_serial.now
  pub signature : TellsAlgorithm item (algorithm_view c.tbs_certificate.signature) told.signature
  pub issuer : TellsName item (name_view c.tbs_certificate.issuer) told.issuer
  pub not_before : told.not_before ≡ time_view c.tbs_certificate.validity.not_before.time
  pub not_after : told.not_after ≡ time_view c.tbs_certificate.validity.not_after.time
  pub subject : TellsName item (name_view c.tbs_certificate.subject) told.subject
  pub key : TellsKey item (key_view c.tbs_certificate.subject_pki) told.key
  pub issuer_id : told.issuer_id ≡ option_map told_bits (option_map identifier_view c.tbs_certificate.issuer_uid)
  pub subject_id : told.subject_id ≡ option_map told_bits (option_map identifier_view c.tbs_certificate.subject_uid)
  pub extensions : TellsExtensions item (map extension_view c.tbs_certificate.extensions.items) told.extensions
  pub algorithm : TellsAlgorithm item (algorithm_view c.signature_algorithm) told.algorithm
  pub signature_value : told.signature_value ≡ told_bits (bits_view c.signature_value)

abbrev pub TellsEntry : List ℕ → RevokedCertificate → Entry → Type 0
TellsEntry item e told = (told.serial ≡ e.raw_serial.now) × (told.date ≡ time_view e.revocation_date.time) × TellsExtensions item (map extension_view e.extensions.items) told.extensions

pub record TellsList (item : List ℕ) (l : CertificateRevocationList) (told : RevocationList) : Type 0 where
  pub version : told.version ≡ option_map (λ v. min v.0 255) l.tbs_cert_list.version
  pub signature : TellsAlgorithm item (algorithm_view l.tbs_cert_list.signature) told.signature
  pub issuer : TellsName item (name_view l.tbs_cert_list.issuer) told.issuer
  pub this_update : told.this_update ≡ time_view l.tbs_cert_list.this_update.time
  pub next_update : told.next_update ≡ option_map (λ u. time_view u.time) l.tbs_cert_list.next_update
  pub entries : AllZip (TellsEntry item) l.tbs_cert_list.revoked_certificates.items told.entries
  pub extensions : TellsExtensions item (map extension_view l.tbs_cert_list.extensions.items) told.extensions
  pub algorithm : TellsAlgorithm item (algorithm_view l.signature_algorithm) told.algorithm
  pub signature_value : told.signature_value ≡ told_bits (bits_view l.signature_value)
