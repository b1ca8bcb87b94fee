-- The one spelling of fields: from values to octets, in the words of RFC 5280, 4.1 and 5.1, by the
-- rules of DER (X.690, 8, 10 and 11).
use Rattle.std.specs.Prelude.{ℕ, ◌/◌, ◌%◌, unsigned_abs, Bool, true, false, if◌then◌else◌, List, [], ◌∷◌, ◌++◌, Option, Some, None, nat_lt}
use Rattle.std.specs.List.{flat_map, concat}
use Rattle.asn1_core.specs.Elements.{element_octets}
use Rattle.der_tree.specs.Time.{Moment, two_digits, after_year}
use Rattle.cert_model.specs.Fields.{Number, Identifier, Algorithm, Attribute, RelativeName, Name, Bits, Key, Extension, CivilTime, Certificate, Entry, RevocationList}

-- an element of the universal class without parts, by its tag number and content (X.690, 8.1)
abbrev pub primitive_octets : ℕ → List ℕ → List ℕ
primitive_octets tag content = element_octets (record { class = 0; constructed = false; tag = tag; content = content })

-- SEQUENCE (X.690, 8.9)
abbrev pub sequence_octets : List ℕ → List ℕ
sequence_octets content = element_octets (record { class = 0; constructed = true; tag = 16; content = content })

-- SET OF (X.690, 8.11)
abbrev pub set_octets : List ℕ → List ℕ
set_octets content = element_octets (record { class = 0; constructed = true; tag = 17; content = content })

-- [n] EXPLICIT, of the context-specific class (X.690, 8.14)
abbrev pub explicit_octets : ℕ → List ℕ → List ℕ
explicit_octets tag content = element_octets (record { class = 2; constructed = true; tag = tag; content = content })

-- OPTIONAL: nothing if there is no value
abbrev pub optional_octets : {A : Type 0} → (A → List ℕ) → Option A → List ℕ
optional_octets write None = []
optional_octets write (Some value) = write value

-- SEQUENCE SIZE (1..MAX) OF, OPTIONAL: an empty list isn't written
abbrev pub several_octets : {A : Type 0} → (List A → List ℕ) → List A → List ℕ
several_octets write [] = []
several_octets write (value ∷ values) = write (value ∷ values)

-- INTEGER (X.690, 8.3)
abbrev pub number_octets : Number → List ℕ
number_octets n = primitive_octets 2 n

-- OBJECT IDENTIFIER (X.690, 8.19)
abbrev pub identifier_octets : Identifier → List ℕ
identifier_octets i = primitive_octets 6 i

-- the content of a BIT STRING (X.690, 8.6.2)
abbrev pub bits_content : Bits → List ℕ
bits_content b = b.unused ∷ b.octets

-- BIT STRING (X.690, 8.6)
abbrev pub bit_field_octets : Bits → List ℕ
bit_field_octets b = primitive_octets 3 (bits_content b)

-- [n] IMPLICIT BIT STRING (X.690, 8.14.3)
abbrev pub implicit_bits_octets : ℕ → Bits → List ℕ
implicit_bits_octets tag b = element_octets (record { class = 2; constructed = false; tag = tag; content = bits_content b })

-- its whole seconds, if the year isn't negative
abbrev pub moment_in : CivilTime → Moment
moment_in t = record { year = unsigned_abs t.year; month = t.month; day = t.day; hour = t.hour; minute = t.minute; second = t.second }

-- UTCTime to the year 2049, GeneralizedTime from 2050 on (RFC 5280, 4.1.2.5; X.690, 11.7 and 11.8)
abbrev pub time_octets : CivilTime → List ℕ
time_octets t =
    let m = moment_in t in
    if nat_lt m.year 2050
    then primitive_octets 23 (two_digits (m.year % 100) ++ after_year m ++ 90 ∷ [])
    else primitive_octets 24 (two_digits (m.year / 100) ++ two_digits (m.year % 100) ++ after_year m ++ 90 ∷ [])

-- SEQUENCE { algorithm OBJECT IDENTIFIER, parameters ANY OPTIONAL } (RFC 5280, 4.1.1.2)
unfoldable pub algorithm_octets : Algorithm → List ℕ
algorithm_octets a = sequence_octets (identifier_octets a.identifier ++ optional_octets element_octets a.parameters)

-- AttributeTypeAndValue ::= SEQUENCE { type OBJECT IDENTIFIER, value ANY } (RFC 5280, 4.1.2.4)
unfoldable pub attribute_octets : Attribute → List ℕ
attribute_octets a = sequence_octets (identifier_octets a.identifier ++ element_octets a.value)

-- RelativeDistinguishedName ::= SET SIZE (1..MAX) OF AttributeTypeAndValue
unfoldable pub relative_name_octets : RelativeName → List ℕ
relative_name_octets attributes = set_octets (flat_map attribute_octets attributes)

-- RDNSequence ::= SEQUENCE OF RelativeDistinguishedName
unfoldable pub name_octets : Name → List ℕ
name_octets sets = sequence_octets (flat_map relative_name_octets sets)

-- SEQUENCE { algorithm AlgorithmIdentifier, subjectPublicKey BIT STRING } (RFC 5280, 4.1)
unfoldable pub key_octets : Key → List ℕ
key_octets k = sequence_octets (algorithm_octets k.algorithm ++ bit_field_octets k.key)

-- BOOLEAN DEFAULT FALSE: written only if true, as ff (X.690, 11.1 and 11.5)
abbrev pub flag_octets : Bool → List ℕ
flag_octets flag = if flag then primitive_octets 1 (255 ∷ []) else []

-- SEQUENCE { extnID, critical BOOLEAN DEFAULT FALSE, extnValue OCTET STRING } (RFC 5280, 4.1)
unfoldable pub extension_octets : Extension → List ℕ
extension_octets e = sequence_octets (concat (identifier_octets e.identifier ∷ flag_octets e.critical ∷ primitive_octets 4 e.value ∷ []))

-- Extensions ::= SEQUENCE SIZE (1..MAX) OF Extension
unfoldable pub extensions_octets : List Extension → List ℕ
extensions_octets extensions = sequence_octets (flat_map extension_octets extensions)

-- [n] EXPLICIT Extensions OPTIONAL
abbrev pub tagged_extensions_octets : ℕ → List Extension → List ℕ
tagged_extensions_octets tag = several_octets (λ extensions. explicit_octets tag (extensions_octets extensions))

-- [0] EXPLICIT Version DEFAULT v1
abbrev pub version_octets : ℕ → List ℕ
version_octets version = if nat_lt 0 version then explicit_octets 0 (number_octets (version ∷ [])) else []

-- Validity ::= SEQUENCE { notBefore Time, notAfter Time } (RFC 5280, 4.1.2.5)
abbrev pub validity_octets : CivilTime → CivilTime → List ℕ
validity_octets not_before not_after = sequence_octets (time_octets not_before ++ time_octets not_after)

-- SEQUENCE { version [0] EXPLICIT DEFAULT v1, serialNumber, signature AlgorithmIdentifier,
--     issuer, validity, subject, subjectPublicKeyInfo, issuerUniqueID [1] IMPLICIT OPTIONAL,
--     subjectUniqueID [2] IMPLICIT OPTIONAL, extensions [3] EXPLICIT OPTIONAL } (RFC 5280, 4.1)
unfoldable pub tbs_certificate_octets : Certificate → List ℕ
tbs_certificate_octets c =
    sequence_octets (concat (version_octets c.version ∷ number_octets c.serial ∷ algorithm_octets c.signature
    ∷ name_octets c.issuer ∷ validity_octets c.not_before c.not_after ∷ name_octets c.subject ∷ key_octets c.key
    ∷ optional_octets (implicit_bits_octets 1) c.issuer_id ∷ optional_octets (implicit_bits_octets 2) c.subject_id
    ∷ tagged_extensions_octets 3 c.extensions ∷ []))

-- SEQUENCE { tbsCertificate, signatureAlgorithm, signatureValue BIT STRING } (RFC 5280, 4.1)
unfoldable pub certificate_octets : Certificate → List ℕ
certificate_octets c =
    sequence_octets (concat (tbs_certificate_octets c ∷ algorithm_octets c.algorithm ∷ bit_field_octets c.signature_value ∷ []))

-- SEQUENCE { userCertificate, revocationDate, crlEntryExtensions OPTIONAL } (RFC 5280, 5.1)
unfoldable pub entry_octets : Entry → List ℕ
entry_octets e = sequence_octets (concat (number_octets e.serial ∷ time_octets e.date ∷ several_octets extensions_octets e.extensions ∷ []))

-- revokedCertificates SEQUENCE OF .. OPTIONAL, never empty (RFC 5280, 5.1.2.6)
abbrev pub entries_octets : List Entry → List ℕ
entries_octets = several_octets (λ entries. sequence_octets (flat_map entry_octets entries))

-- SEQUENCE { version OPTIONAL, signature, issuer, thisUpdate, nextUpdate OPTIONAL,
--     revokedCertificates OPTIONAL, crlExtensions [0] EXPLICIT OPTIONAL } (RFC 5280, 5.1)
unfoldable pub tbs_cert_list_octets : RevocationList → List ℕ
tbs_cert_list_octets l =
    sequence_octets (concat (optional_octets (λ version. number_octets (version ∷ [])) l.version ∷ algorithm_octets l.signature
    ∷ name_octets l.issuer ∷ time_octets l.this_update ∷ optional_octets time_octets l.next_update
    ∷ entries_octets l.entries ∷ tagged_extensions_octets 0 l.extensions ∷ []))

-- SEQUENCE { tbsCertList, signatureAlgorithm, signatureValue BIT STRING } (RFC 5280, 5.1)
unfoldable pub list_octets : RevocationList → List ℕ
list_octets l =
    sequence_octets (concat (tbs_cert_list_octets l ∷ algorithm_octets l.algorithm ∷ bit_field_octets l.signature_value ∷ []))
