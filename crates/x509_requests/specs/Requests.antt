-- What the lenient readers of certification requests take (RFC 2986, 4). How the value of an extension is parsed is an
-- argument.
use Rattle.std.specs.Prelude.{◌≡◌, ◌≢◌, ℕ, List, ◌++◌, IsUtf8}
use Rattle.asn1_core.specs.Strict.{Head}
use Rattle.asn1_any.specs.BerElements.{BerElement, element_of_ber}
use Rattle.asn1_any.specs.Cutting.{Piece}
use Rattle.asn1_strings.specs.Charsets.{IsTextOf, is_printable}
use Rattle.asn1_strings.specs.Texts.{MeansTextOf}
use Rattle.asn1_traits.specs.Elements.{ReadsBerElement}
use Rattle.asn1_traits.specs.Lists.{IsContainer}
use Rattle.x509_core.specs.Grammar.{Grammar, Header, One, WindowBox, WholeBox, ToEnd}
use Rattle.x509_names.specs.Leaves.{Leaf, IsOid, IsBits}
use Rattle.x509_names.specs.Names.{AlgorithmIdentifier, X509Name, SubjectPublicKeyInfo}
use Rattle.x509_ext.specs.Extensions.{ExtensionList}
use Rattle.x509_ext.specs.Fields.{Extension, ValueMeaning}
use Rattle.x509_ext.specs.Parts.{X509Version}
use Rattle.x509_requests.specs.Fields.{AttributeValues, extension_request, challenge_password, unsupported_attribute, RequestAttribute, RequestInfo, Request}
use Rattle.x509_requests.specs.Identifiers.{extension_request_id, challenge_password_id}

-- ExtensionRequest ::= Extensions (RFC 2985, 5.4.2)
abbrev pub ExtensionRequest : ValueMeaning → Grammar (List Extension)
ExtensionRequest = ExtensionList

-- DirectoryString (RFC 2985, 5.4.1), of two of its kinds: UTF8String and PrintableString
pub data IsPassword (piece : Piece) (text : List ℕ) : Type 0 where
  utf8 : Leaf 12 (MeansTextOf IsUtf8 (λ v. v)) piece text → IsPassword piece text
  printable : Leaf 19 (MeansTextOf (IsTextOf is_printable) (λ v. v)) piece text → IsPassword piece text

-- what comes after the header of an attribute's SET, by the attribute's type: the first value; of
-- any other type nothing is read
pub data Values (Means : ValueMeaning) (identifier octets : List ℕ) (v : AttributeValues) (rest : List ℕ) : Type 0 where
  extensions : (es : List Extension) → identifier ≡ extension_request_id → v ≡ extension_request es → ExtensionRequest Means octets es rest → Values Means identifier octets v rest
  password : (text : List ℕ) → identifier ≡ challenge_password_id → v ≡ challenge_password text → One IsPassword octets text rest → Values Means identifier octets v rest
  other : identifier ≢ extension_request_id → identifier ≢ challenge_password_id → v ≡ unsupported_attribute → rest ≡ octets → Values Means identifier octets v rest

-- Attribute ::= SEQUENCE { type OBJECT IDENTIFIER, values SET OF ANY } (RFC 2986, 4.1): the length in the SET's header isn't
-- used, and the window runs from that header to where reading stopped
pub record AttributeParts (Means : ValueMeaning) (octets : List ℕ) (a : RequestAttribute) (rest : List ℕ) : Type 0 where
  pub after_type : List ℕ
  pub attr_type : One IsOid octets a.identifier after_type
  pub head : Head
  pub after_header : List ℕ
  pub header : Header after_type head after_header
  pub set : head.tag ≡ 17
  pub values : Values Means a.identifier after_header a.values rest
  pub window : after_type ≡ a.raw ++ rest

-- a universal, constructed element of tag number 16, whose content begins with the parts
pub record IsAttribute (Means : ValueMeaning) (e : BerElement) (a : RequestAttribute) : Type 0 where
  pub container : IsContainer 16 (element_of_ber e)
  pub left : List ℕ
  pub parts : AttributeParts Means e.content a left

-- an attribute by the rules of BER: of definite length, or of the indefinite form
abbrev pub X509CriAttribute : ValueMeaning → Grammar RequestAttribute
X509CriAttribute Means = ReadsBerElement (IsAttribute Means)

-- attributes [0] Attributes, Attributes ::= SET OF Attribute (RFC 2986, 4.1): a header whose length isn't used, then
-- attributes up to the end of the octets
pub record Attributes (Means : ValueMeaning) (octets : List ℕ) (attributes : List RequestAttribute) (rest : List ℕ) : Type 0 where
  pub head : Head
  pub after_header : List ℕ
  pub header : Header octets head after_header
  pub class : head.class ≡ 2
  pub tag : head.tag ≡ 0
  pub each : ToEnd (X509CriAttribute Means) after_header attributes rest

-- CertificationRequestInfo ::= SEQUENCE { version INTEGER { v1(0) }, subject Name, subjectPKInfo SubjectPublicKeyInfo,
-- attributes [0] Attributes } (RFC 2986, 4.1)
pub record InfoParts (Means : ValueMeaning) (octets : List ℕ) (r : RequestInfo) (rest : List ℕ) : Type 0 where
  pub after_version : List ℕ
  pub version : X509Version octets r.version after_version
  pub after_subject : List ℕ
  pub subject : X509Name after_version r.subject after_subject
  pub after_key : List ℕ
  pub key : SubjectPublicKeyInfo after_subject r.key after_key
  pub attributes : Attributes Means after_key r.attributes rest

-- its window ends where the attributes do, which is its end
abbrev pub X509CertificationRequestInfo : ValueMeaning → Grammar RequestInfo
X509CertificationRequestInfo Means = WindowBox 16 (InfoParts Means) (λ r. r.raw)

-- CertificationRequest ::= SEQUENCE { certificationRequestInfo CertificationRequestInfo, signatureAlgorithm
-- AlgorithmIdentifier, signature BIT STRING } (RFC 2986, 4.2)
pub record RequestParts (Means : ValueMeaning) (octets : List ℕ) (r : Request) (rest : List ℕ) : Type 0 where
  pub after_info : List ℕ
  pub info : X509CertificationRequestInfo Means octets r.info after_info
  pub after_algorithm : List ℕ
  pub signature_algorithm : AlgorithmIdentifier after_info r.algorithm after_algorithm
  pub signature_value : One IsBits after_algorithm r.signature_value rest

-- its window is all of it, what is left of its content too
abbrev pub X509CertificationRequest : ValueMeaning → Grammar Request
X509CertificationRequest Means = WholeBox 16 (RequestParts Means) (λ r. r.raw)
