-- How an error of an element is reported by a reader of certificates, and what errors print.
use Rattle.std.specs.Prelude.{ℕ, List, ◌++◌, codes}
use Rattle.asn1_core.specs.Texts.{error_text, kind_text}
use Rattle.asn1_core.specs.declared.error.Error.{Error}
use Rattle.asn1_core.specs.declared.error.Error.TheVariants as der
use Rattle.asn1_core.specs.declared.outcome.Err.{Err as Refusal}
use Rattle.asn1_core.specs.declared.outcome.Err.TheVariants as refusals
use Rattle.x509_core.specs.declared.error.X509Error.{X509Error}
use Rattle.x509_core.specs.declared.error.X509Error.TheVariants as errors

-- `OutOfMemory` stays `OutOfMemory`
abbrev pub told : Error → X509Error
told der.OutOfMemory = errors.OutOfMemory
told e = errors.Der e

-- the error that a refusal holds; missing octets become an error
abbrev pub told_refusal : Refusal Error → X509Error
told_refusal (refusals.Incomplete n) = errors.Der (der.Incomplete n)
told_refusal (refusals.Error e) = told e
told_refusal (refusals.Failure e) = told e

abbrev pub held_error : Refusal X509Error → X509Error
held_error (refusals.Incomplete n) = errors.Der (der.Incomplete n)
held_error (refusals.Error e) = e
held_error (refusals.Failure e) = e

abbrev pub x509_text : X509Error → List ℕ
x509_text errors.Generic = codes "generic error"
x509_text errors.InvalidVersion = codes "invalid version"
x509_text errors.InvalidSerial = codes "invalid serial"
x509_text errors.InvalidAlgorithmIdentifier = codes "invalid algorithm identifier"
x509_text errors.InvalidX509Name = codes "invalid X.509 name"
x509_text errors.InvalidDate = codes "invalid date"
x509_text errors.InvalidSPKI = codes "invalid X.509 Subject Public Key Info"
x509_text errors.InvalidSubjectUID = codes "invalid X.509 Subject Unique ID"
x509_text errors.InvalidIssuerUID = codes "invalid X.509 Issuer Unique ID"
x509_text errors.InvalidExtensions = codes "invalid extensions"
x509_text errors.InvalidAttributes = codes "invalid attributes"
x509_text errors.DuplicateExtensions = codes "duplicate extensions"
x509_text errors.DuplicateAttributes = codes "duplicate attributes"
x509_text errors.InvalidSignatureValue = codes "invalid Signature DER Value"
x509_text errors.InvalidTbsCertificate = codes "invalid TBS certificate"
x509_text errors.InvalidUserCertificate = codes "invalid User certificate"
x509_text errors.InvalidCertificate = codes "invalid certificate"
x509_text errors.SignatureVerificationError = codes "signature verification error"
x509_text errors.SignatureUnsupportedAlgorithm = codes "signature unsupported algorithm"
x509_text errors.InvalidNumber = codes "invalid number"
x509_text (errors.Der e) = codes "BER error: " ++ error_text e
x509_text (errors.NomError kind) = codes "nom error: " ++ kind_text kind
x509_text errors.OutOfMemory = codes "out of memory"
