-- The readers of certificates as functions on octets, with the refusals that are promised, in their order. What they read
-- is defined in `Certificates`; laws tie each function to it.
use Rattle.std.specs.Prelude.{ℕ, List, Option, Ok}
use Rattle.asn1_any.specs.Cutting.{Piece}
use Rattle.x509_core.specs.Answers.{Answer, naming, ◌>>=◌}
use Rattle.x509_core.specs.Reading.{Reader, content_in, next}
use Rattle.x509_core.specs.declared.error.X509Error.TheVariants as errors
use Rattle.x509_names.specs.Fields.{Algorithm, Name, Bits, Key}
use Rattle.x509_names.specs.Reading.{algorithm_at, name_at, key_at, bits_at}
use Rattle.x509_time.specs.Reading.{validity_at}
use Rattle.x509_time.specs.Times.{Period}
use Rattle.x509_ext.specs.Fields.{Extension, ValueReading}
use Rattle.x509_ext.specs.Reading.{any_version_at, serial_at, id_at, extensions_at}
use Rattle.x509_certs.specs.Fields.{Tbs, Certificate}

unfoldable pub tbs_in : ValueReading → Piece → Answer Tbs
tbs_in parse p = do
  content ← content_in 16 p.element
  version ← naming errors.InvalidVersion (any_version_at content)
  serial ← naming errors.InvalidSerial (serial_at version.1)
  signature ← algorithm_at serial.1
  issuer ← name_at signature.1
  validity ← validity_at issuer.1
  subject ← name_at validity.1
  key ← key_at subject.1
  issuer_id ← naming errors.InvalidIssuerUID (id_at 1 key.1)
  subject_id ← naming errors.InvalidSubjectUID (id_at 2 issuer_id.1)
  extensions ← extensions_at parse 3 subject_id.1
  Ok (record { version = version.0; serial = serial.0; signature = signature.0; issuer = issuer.0; validity = validity.0; subject = subject.0; key = key.0; issuer_id = issuer_id.0; subject_id = subject_id.0; extensions = extensions; raw = p.octets })

-- a signed part at the front of octets
abbrev pub tbs_at : ValueReading → Reader Tbs
tbs_at parse = next (tbs_in parse)

unfoldable pub certificate_in : ValueReading → Piece → Answer Certificate
certificate_in parse p = do
  content ← content_in 16 p.element
  tbs ← tbs_at parse content
  algorithm ← algorithm_at tbs.1
  signature_value ← naming errors.InvalidSignatureValue (bits_at algorithm.1)
  Ok (record { tbs = tbs.0; algorithm = algorithm.0; signature_value = signature_value.0; raw = p.octets })

-- a certificate at the front of octets
abbrev pub certificate_at : ValueReading → Reader Certificate
certificate_at parse = next (certificate_in parse)

-- ---- the signed part in three runs of parts, as it is read

-- its version, its serial number and its algorithm
unfoldable pub start_at : Reader (ℕ × List ℕ × Algorithm)
start_at i = do
  version ← naming errors.InvalidVersion (any_version_at i)
  serial ← naming errors.InvalidSerial (serial_at version.1)
  signature ← algorithm_at serial.1
  Ok ((version.0, serial.0, signature.0), signature.1)

-- its issuer, its validity, its subject and the key
unfoldable pub binding_at : Reader (Name × Period × Name × Key)
binding_at i = do
  issuer ← name_at i
  validity ← validity_at issuer.1
  subject ← name_at validity.1
  key ← key_at subject.1
  Ok ((issuer.0, validity.0, subject.0, key.0), key.1)

-- the identifiers of both and the extensions, which are all that is left
unfoldable pub end_at : ValueReading → List ℕ → Answer (Option Bits × Option Bits × List Extension)
end_at parse i = do
  issuer_id ← naming errors.InvalidIssuerUID (id_at 1 i)
  subject_id ← naming errors.InvalidSubjectUID (id_at 2 issuer_id.1)
  extensions ← extensions_at parse 3 subject_id.1
  Ok (issuer_id.0, subject_id.0, extensions)
