-- Extensions (RFC 5280, 4.1 and 4.2), and where they are in certificates and lists. How a value is
-- parsed is an argument.
use Rattle.std.specs.Prelude.{◌≡◌, ℕ, Bool, false, List, [], Option, Some, None}
use Rattle.asn1_any.specs.Cutting.{Piece}
use Rattle.asn1_core.specs.Strict.{Head}
use Rattle.asn1_traits.specs.Booleans.{BooleanMeans}
use Rattle.x509_core.specs.Grammar.{Grammar, Header, One, Box, ToEnd, Maybe}
use Rattle.x509_names.specs.Leaves.{Leaf, IsOid, IsOctets}
use Rattle.x509_ext.specs.Fields.{Extension, ValueMeaning}

-- BOOLEAN by the rules of BER: any octet but 0 is true (X.690, 8.2)
abbrev pub IsBoolean : Piece → Bool → Type 0
IsBoolean = Leaf 1 BooleanMeans

-- DEFAULT FALSE
abbrev pub or_false : Option Bool → Bool
or_false None = false
or_false (Some b) = b

-- Extension ::= SEQUENCE { extnID OBJECT IDENTIFIER, critical BOOLEAN DEFAULT FALSE, extnValue OCTET STRING } (RFC 5280, 4.1)
pub record ExtensionParts (Means : ValueMeaning) (octets : List ℕ) (e : Extension) (rest : List ℕ) : Type 0 where
  pub after_id : List ℕ
  pub extn_id : One IsOid octets e.identifier after_id
  pub written : Option Bool
  pub after_critical : List ℕ
  pub critical : Maybe (One IsBoolean) after_id written after_critical
  pub is_critical : e.critical ≡ or_false written
  pub extn_value : One IsOctets after_critical e.value rest
  pub parsed : Means e.identifier e.value e.parsed

abbrev pub X509Extension : ValueMeaning → Grammar Extension
X509Extension Means = Box 16 (ExtensionParts Means)

-- Extensions ::= SEQUENCE SIZE (1..MAX) OF Extension (RFC 5280, 4.1); an empty one is taken
abbrev pub ExtensionList : ValueMeaning → Grammar (List Extension)
ExtensionList Means = Box 16 (ToEnd (X509Extension Means))

-- a header of this tag number, whose length isn't used, then the list, up to the end of the octets
pub record Wrapped (Means : ValueMeaning) (n : ℕ) (octets : List ℕ) (extensions : List Extension) : Type 0 where
  pub head : Head
  pub after_header : List ℕ
  pub header : Header octets head after_header
  pub tag : head.tag ≡ n
  pub list : ExtensionList Means after_header extensions []

-- [n] EXPLICIT Extensions OPTIONAL, at the end of a signed part: nothing if no octet is left
pub data Extensions (Means : ValueMeaning) (n : ℕ) (octets : List ℕ) (extensions : List Extension) (rest : List ℕ) : Type 0 where
  absent : octets ≡ [] → extensions ≡ [] → rest ≡ [] → Extensions Means n octets extensions rest
  there : Wrapped Means n octets extensions → rest ≡ [] → Extensions Means n octets extensions rest
