-- Extension values that are a number, a reason, a time, a text or what a subject may issue, as they are read leniently. A leaf is
-- primitive; tag numbers are compared, classes aren't.
use Rattle.std.specs.Prelude.{◌≡◌, ◌⊎◌, ◌≤◌, ◌<◌, ◌↔◌, ℕ, pos, ◌≤ℤ◌, Bool, true, false, List, [], ◌∷◌, ◌++◌, length, Option, Some, None, if◌then◌else◌}
use Rattle.std.specs.Str.{IsUtf8}
use Rattle.asn1_any.specs.Cutting.{Piece}
use Rattle.asn1_strings.specs.Charsets.{IsTextOf, is_below_80}
use Rattle.asn1_traits.specs.Integers.{IsShortest, SpellsInteger}
use Rattle.asn1_traits.specs.Leaves.{MeansOctets}
use Rattle.x509_core.specs.Grammar.{Grammar, NoneBegins, One}
use Rattle.x509_core.specs.Leaves.{Leaf}
use Rattle.x509_ext_flags.specs.Numbers.{IsNumber}
use Rattle.x509_time.specs.Times.{Time, GeneralMoment}
use Rattle.x509_ext_basic.specs.Values as values

-- a number that isn't negative, in the fewest octets (X.690, 8.3)
pub record IsNatural (content : List ℕ) (n : ℕ) : Type 0 where
  pub shortest : IsShortest content
  pub value : SpellsInteger content (pos n)

-- CRLNumber, BaseCRLNumber ::= INTEGER (0..MAX) (RFC 5280, 5.2.3 and 5.2.4)
abbrev pub CRLNumber : Grammar ℕ
CRLNumber = One (Leaf 2 IsNatural)

-- CRLReason ::= ENUMERATED { unspecified (0), keyCompromise (1), cACompromise (2), affiliationChanged (3), superseded (4),
--   cessationOfOperation (5), certificateHold (6), removeFromCRL (8), privilegeWithdrawn (9), aACompromise (10) }
-- (RFC 5280, 5.3.1); 7, which isn't used, is taken too
pub record IsReason (content : List ℕ) (n : ℕ) : Type 0 where
  pub number : IsNumber content n
  pub known : n ≤ 10

abbrev pub CRLReason : Grammar ℕ
CRLReason = One (Leaf 10 IsReason)

-- an ENUMERATED of any content
abbrev pub Enumerated : Grammar (List ℕ)
Enumerated = One (Leaf 10 (MeansOctets (λ v. v)))

-- InvalidityDate ::= GeneralizedTime (RFC 5280, 5.3.2); what is handed out counts as GeneralizedTime from 2050 on, which begins
-- 2,524,608,000 seconds after 1970 does
pub record IsDate (content : List ℕ) (t : Time) : Type 0 where
  pub moment : GeneralMoment content t.nanoseconds
  pub form : t.generalized ≡ true ↔ pos 2_524_608_000_000_000_000 ≤ℤ t.nanoseconds

abbrev pub InvalidityDate : Grammar Time
InvalidityDate = One (Leaf 24 IsDate)

-- IA5String: octets below 80 hex (X.680, 41)
pub record IsIa5 (content text : List ℕ) : Type 0 where
  pub same : text ≡ content
  pub below_80 : IsTextOf is_below_80 content

-- Netscape's comment ::= IA5String; if none begins the octets, all of them are the comment, if they
-- are UTF-8
pub data NetscapeComment (octets comment rest : List ℕ) : Type 0 where
  ia5_string : One (Leaf 22 IsIa5) octets comment rest → NetscapeComment octets comment rest
  bare : NoneBegins (One (Leaf 22 IsIa5)) octets → IsUtf8 octets → comment ≡ octets → rest ≡ [] → NetscapeComment octets comment rest

-- ---- BasicConstraints

-- a constructed element of tag number 16, and its content
pub record IsSequence (p : Piece) (content : List ℕ) : Type 0 where
  pub tag : p.element.tag ≡ 16
  pub constructed : p.element.constructed ≡ true
  pub same : content ≡ p.element.content

-- cA BOOLEAN of DER (X.690, 8.2 and 11.1), with its header; false may be written out
abbrev pub flag_octets : Bool → List ℕ
flag_octets ca = 0x01 ∷ 0x01 ∷ (if ca then 0xff else 0x00) ∷ []

-- pathLenConstraint INTEGER of DER (X.690, 8.3), below 2^32, with its header: so its content has at most five octets, and its
-- length is one octet. An ENUMERATED (X.690, 8.4) counts as well.
pub record IsLimit (octets : List ℕ) (n : ℕ) : Type 0 where
  pub tag : ℕ
  pub content : List ℕ
  pub is_tag : (tag ≡ 2) ⊎ (tag ≡ 10)
  pub whole : octets ≡ tag ∷ length content ∷ content
  pub number : IsNumber content n

-- neither, cA, pathLenConstraint, or both in this order
pub data BasicParts (content : List ℕ) (c : values.BasicConstraints) : Type 0 where
  neither : content ≡ [] → c ≡ record { ca = false; path_len_constraint = None } → BasicParts content c
  flag : (ca : Bool) → content ≡ flag_octets ca → c ≡ record { ca = ca; path_len_constraint = None } → BasicParts content c
  limit : (n : ℕ) → IsLimit content n → c ≡ record { ca = false; path_len_constraint = Some n } → BasicParts content c
  both :
      (ca : Bool) (octets : List ℕ) (n : ℕ) → content ≡ flag_octets ca ++ octets → IsLimit octets n
      → c ≡ record { ca = ca; path_len_constraint = Some n } → BasicParts content c

-- BasicConstraints ::= SEQUENCE { cA BOOLEAN DEFAULT FALSE, pathLenConstraint INTEGER (0..MAX) OPTIONAL } (RFC 5280, 4.2.1.9). The
-- sequence's own header may be spelled in any way, and its class plays no part; what it holds is strict, to its end.
pub record IsBasicConstraints (p : Piece) (c : values.BasicConstraints) : Type 0 where
  pub content : List ℕ
  pub sequence : IsSequence p content
  pub parts : BasicParts content c

abbrev pub BasicConstraints : Grammar values.BasicConstraints
BasicConstraints = One IsBasicConstraints

-- such a sequence, its content not looked into
abbrev pub AnySequence : Grammar (List ℕ)
AnySequence = One IsSequence

-- the content is no value of the type
abbrev pub IsNoConstraints : List ℕ → Type 0
IsNoConstraints content = (c : values.BasicConstraints) → BasicParts content c → ⊥
