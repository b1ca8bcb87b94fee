-- Version, serial number and unique identifier, as they are read leniently (RFC 5280, 4.1).
use Rattle.std.specs.Prelude.{◌≡◌, ◌≢◌, ℕ, false, List, [], Option, Some, None}
use Rattle.asn1_any.specs.Cutting.{Piece}
use Rattle.asn1_core.specs.Strict.{Head}
use Rattle.x509_core.specs.Grammar.{Grammar, Header, One}
pub use Rattle.x509_ext_parse.specs.x509_ext_flags.specs.Numbers.{IsNumber}
use Rattle.x509_names.specs.Fields.{Bits}
use Rattle.x509_names.specs.Leaves.{Leaf, AreBits}

-- Version ::= INTEGER { v1(0), v2(1), v3(2) } (RFC 5280, 4.1)
abbrev pub IsVersion : Piece → ℕ → Type 0
IsVersion = Leaf 2 IsNumber

abbrev pub X509Version : Grammar ℕ
X509Version = One IsVersion

-- a context-specific element of tag number 0, whose content begins with the version; what is left of it is ignored
pub record IsTaggedVersion (piece : Piece) (version : ℕ) : Type 0 where
  pub class : piece.element.class ≡ 2
  pub tag : piece.element.tag ≡ 0
  pub left : List ℕ
  pub number : X509Version piece.element.content version left

-- any element of another tag number
pub record IsOtherElement (n : ℕ) (octets : List ℕ) : Type 0 where
  pub piece : Piece
  pub rest : List ℕ
  pub begins : One (λ p q. q ≡ p) octets piece rest
  pub tag : piece.element.tag ≢ n

-- version [0] EXPLICIT Version DEFAULT v1 (RFC 5280, 4.1): absent if no octet is left, or a whole
-- element of another tag number is next, which is left there
pub data Version (octets : List ℕ) (version : ℕ) (rest : List ℕ) : Type 0 where
  version_at_end : octets ≡ [] → version ≡ 0 → rest ≡ octets → Version octets version rest
  version_absent : IsOtherElement 0 octets → version ≡ 0 → rest ≡ octets → Version octets version rest
  version_there : One IsTaggedVersion octets version rest → Version octets version rest

-- CertificateSerialNumber ::= INTEGER (RFC 5280, 4.1.2.2): any element of tag number 2, constructed ones too, of any content
pub record IsSerial (piece : Piece) (serial : List ℕ) : Type 0 where
  pub tag : piece.element.tag ≡ 2
  pub content : serial ≡ piece.element.content

-- [n] IMPLICIT BIT STRING
pub record IsIdentifier (n : ℕ) (piece : Piece) (b : Bits) : Type 0 where
  pub class : piece.element.class ≡ 2
  pub tag : piece.element.tag ≡ n
  pub primitive : piece.element.constructed ≡ false
  pub bits : AreBits piece.element.content b

-- a header of another tag number; what it counts needn't be there
pub record IsOtherHeader (n : ℕ) (octets : List ℕ) : Type 0 where
  pub head : Head
  pub after : List ℕ
  pub header : Header octets head after
  pub tag : head.tag ≢ n

-- [n] IMPLICIT UniqueIdentifier OPTIONAL, UniqueIdentifier ::= BIT STRING (RFC 5280, 4.1.2.8):
-- absent if no octet is left, or a header of another tag number is next, which is left there
pub data UniqueIdentifier (n : ℕ) (octets : List ℕ) (id : Option Bits) (rest : List ℕ) : Type 0 where
  id_at_end : octets ≡ [] → id ≡ None → rest ≡ octets → UniqueIdentifier n octets id rest
  id_absent : IsOtherHeader n octets → id ≡ None → rest ≡ octets → UniqueIdentifier n octets id rest
  id_there : (b : Bits) → id ≡ Some b → One (IsIdentifier n) octets b rest → UniqueIdentifier n octets id rest
