-- Parameters of RSASSA-PSS and RSAES-OAEP, as they are read leniently (RFC 8017, A.2). A part is
-- known by its tag number; what is left of the content of an element is ignored.
use Rattle.std.specs.Prelude.{◌≡◌, ◌≢◌, ◌⊎◌, ℕ, true, List, [], Option, Some, None}
use Rattle.asn1_core.specs.Elements.{Element}
use Rattle.asn1_core.specs.Strict.{Head}
use Rattle.asn1_any.specs.Cutting.{Piece}
use Rattle.asn1_tagged.specs.Tagging.{IsTagged, IsExplicit}
use Rattle.x509_core.specs.Grammar.{Grammar, Header, One}
use Rattle.x509_core.specs.Leaves.{Leaf, IsOid}
use Rattle.x509_ext_flags.specs.Numbers.{IsNumber}
use Rattle.x509_names.specs.Fields.{Algorithm}
use Rattle.x509_names.specs.Names.{AlgorithmIdentifier}
use Rattle.x509_algorithms.specs.Values as values
use Rattle.x509_algorithms.specs.Identifiers.{mgf1, sha1, p_specified}

-- [n] of the context class, constructed or not, whose content begins so
pub record HoldsTagged {A : Type 0} (n : ℕ) (P : Grammar A) (piece : Piece) (v : A) : Type 0 where
  pub tagged : IsTagged 2 n piece.element
  pub left : List ℕ
  pub inner : P piece.element.content v left

-- an element of another tag number
pub record IsOther (n : ℕ) (piece : Piece) (v : Unit {0}) : Type 0 where
  pub tag : piece.element.tag ≢ n

-- no octet is left, or a whole element of another tag number is next
abbrev pub NoElement : ℕ → List ℕ → Type 0
NoElement n octets = (octets ≡ []) ⊎ ((rest : List ℕ) × One (IsOther n) octets tt rest)

-- such an element, or none. An element that is cut, or of this tag number and another class, is neither.
abbrev pub Tagged : {A : Type 0} → ℕ → Grammar A → Grammar (Option A)
Tagged n P octets (Some v) rest = One (HoldsTagged n P) octets v rest
Tagged n P octets None rest = NoElement n octets × (rest ≡ octets)

-- [n] EXPLICIT of the context class (X.690, 8.14.2), whose content begins so
pub record HoldsExplicit {A : Type 0} (n : ℕ) (P : Grammar A) (piece : Piece) (v : A) : Type 0 where
  pub explicit : IsExplicit 2 n piece.element
  pub left : List ℕ
  pub inner : P piece.element.content v left

-- a header of another tag number, its content whole or cut
pub record OtherHeader (n : ℕ) (octets : List ℕ) : Type 0 where
  pub head : Head
  pub after : List ℕ
  pub header : Header octets head after
  pub tag : head.tag ≢ n

-- such an element; or none, if no octet is left, or a header of another tag number is next
abbrev pub Explicit : {A : Type 0} → ℕ → Grammar A → Grammar (Option A)
Explicit n P octets (Some v) rest = One (HoldsExplicit n P) octets v rest
Explicit n P octets None rest = ((octets ≡ []) ⊎ OtherHeader n octets) × (rest ≡ octets)

-- INTEGER of 32 bits without a sign, in the fewest octets
abbrev pub Number : Grammar ℕ
Number = One (Leaf 2 IsNumber)

-- RSASSA-PSS-params ::= SEQUENCE {                                      (RFC 8017, A.2.3)
--   hashAlgorithm    [0] HashAlgorithm    DEFAULT sha1,
--   maskGenAlgorithm [1] MaskGenAlgorithm DEFAULT mgf1SHA1,
--   saltLength       [2] INTEGER          DEFAULT 20,
--   trailerField     [3] TrailerField     DEFAULT trailerFieldBC }
pub record PssParts (octets : List ℕ) (v : values.RsaSsaPssParams) (rest : List ℕ) : Type 0 where
  pub after_hash : List ℕ
  pub hash_alg : Tagged 0 AlgorithmIdentifier octets v.hash_alg after_hash
  pub after_mask : List ℕ
  pub mask_gen_algorithm : Tagged 1 AlgorithmIdentifier after_hash v.mask_gen_algorithm after_mask
  pub after_salt : List ℕ
  pub salt_length : Explicit 2 Number after_mask v.salt_length after_salt
  pub trailer_field : Explicit 3 Number after_salt v.trailer_field rest

-- RSAES-OAEP-params ::= SEQUENCE {                                      (RFC 8017, A.2.1)
--   hashAlgorithm    [0] HashAlgorithm    DEFAULT sha1,
--   maskGenAlgorithm [1] MaskGenAlgorithm DEFAULT mgf1SHA1,
--   pSourceAlgorithm [2] PSourceAlgorithm DEFAULT pSpecifiedEmpty }
pub record OaepParts (octets : List ℕ) (v : values.RsaAesOaepParams) (rest : List ℕ) : Type 0 where
  pub after_hash : List ℕ
  pub hash_alg : Tagged 0 AlgorithmIdentifier octets v.hash_alg after_hash
  pub after_mask : List ℕ
  pub mask_gen_alg : Tagged 1 AlgorithmIdentifier after_hash v.mask_gen_alg after_mask
  pub p_source_alg : Tagged 2 AlgorithmIdentifier after_mask v.p_source_alg rest

-- an element that was read before: its tag number alone is looked at
pub record Means {A : Type 0} (P : Grammar A) (e : Element) (v : A) : Type 0 where
  pub tag : e.tag ≡ 16
  pub left : List ℕ
  pub inner : P e.content v left

-- from octets it is constructed too
pub record IsParameters {A : Type 0} (P : Grammar A) (piece : Piece) (v : A) : Type 0 where
  pub constructed : piece.element.constructed ≡ true
  pub means : Means P piece.element v

abbrev pub PssOf : Element → values.RsaSsaPssParams → Type 0
PssOf = Means PssParts

abbrev pub OaepOf : Element → values.RsaAesOaepParams → Type 0
OaepOf = Means OaepParts

abbrev pub RsaSsaPssParams : Grammar values.RsaSsaPssParams
RsaSsaPssParams = One (IsParameters PssParts)

abbrev pub RsaAesOaepParams : Grammar values.RsaAesOaepParams
RsaAesOaepParams = One (IsParameters OaepParts)

-- ---- what the parameters say, the defaults filled in

abbrev pub or_else : {A : Type 0} → A → Option A → A
or_else a None = a
or_else a (Some b) = b

abbrev pub salt_length_of : values.RsaSsaPssParams → ℕ
salt_length_of v = or_else 20 v.salt_length

abbrev pub trailer_field_of : values.RsaSsaPssParams → ℕ
trailer_field_of v = or_else 1 v.trailer_field

abbrev pub hash_of : Option Algorithm → List ℕ
hash_of None = sha1
hash_of (Some a) = a.identifier

-- MGF1 with SHA-1 if there is none; else the identifier that begins the content of the parameters
-- is the hash
abbrev pub IsMaskGen : Option Algorithm → values.MaskGenAlgorithm → Type 0
IsMaskGen None m = m ≡ record { mgf = mgf1; hash = sha1 }
IsMaskGen (Some a) m = (m.mgf ≡ a.identifier) × (e : Element) × (left : List ℕ) × (a.parameters ≡ Some e) × One IsOid e.content m.hash left

-- no label is the default
abbrev pub source_of : Option Algorithm → Algorithm
source_of source = or_else (record { identifier = p_specified; parameters = None }) source
