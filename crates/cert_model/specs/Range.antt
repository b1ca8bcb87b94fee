-- Which fields have a spelling (RFC 5280, 4.1 and 5.1). Lengths play no part: every length has one.
use Rattle.std.specs.Prelude.{◌≡◌, ◌≢◌, ℕ, ◌^◌, ◌<◌, ◌≤◌, pos, ◌≤ℤ◌, Bool, true, false, ◌&&◌, IsTrue, List, [], ◌∷◌, map, Option, Some, None}
use Rattle.std.specs.List.{AllByRecursion}
use Rattle.std.specs.Cmp.Lexicographic.{slice_cmp}
use Rattle.std.specs.Ordering.{is_le, nat_cmp}
use Rattle.asn1_core.specs.Elements.{Element}
use Rattle.asn1_oid.specs.Identifier.{IsOidContent}
use Rattle.der_tree.specs.Table.{is_shortest, is_negative, is_bit_string}
use Rattle.der_tree.specs.Time.{IsMoment}
use Rattle.cert_model.specs.Fields.{Number, Identifier, Algorithm, Attribute, RelativeName, Name, Bits, Key, Extension, CivilTime, Certificate, Entry, RevocationList}
use Rattle.cert_model.specs.Octets.{bits_content, moment_in, attribute_octets}

-- what is there, if anything, is so
abbrev pub IfThere : {A : Type 0} → (A → Type 0) → Option A → Type 0
IfThere P None = Unit {0}
IfThere P (Some x) = P x

-- not negative, 0 too, of any length, in the fewest octets (RFC 5280, 4.1.2.2; X.690, 8.3.2)
pub record IsNumber (n : Number) : Type 0 where
  pub shortest : IsTrue (is_shortest n)
  pub sign : is_negative n ≡ false

-- one or more subidentifiers, each in the fewest octets (X.690, 8.19.2)
abbrev pub IsIdentifier : Identifier → Type 0
IsIdentifier = IsOidContent

-- unused bits from 0 to 7, none if no octet follows, all of them 0 (X.690, 8.6.2 and 11.2.1)
abbrev pub AreBits : Bits → Type 0
AreBits b = IsTrue (is_bit_string (bits_content b))

-- any element: one of the four classes, a tag number of 32 bits (X.690, 8.1.2)
pub record IsAny (e : Element) : Type 0 where
  pub class : e.class < 4
  pub tag : e.tag < 2 ^ 32

-- from 1950 to 9999, a real date and time, whole seconds (RFC 5280, 4.1.2.5)
pub record IsTimeField (t : CivilTime) : Type 0 where
  pub first : pos 1950 ≤ℤ t.year
  pub last : t.year ≤ℤ pos 9999
  pub real : IsMoment (moment_in t)
  pub whole : t.nanosecond ≡ 0

pub record IsAlgorithm (a : Algorithm) : Type 0 where
  pub identifier : IsIdentifier a.identifier
  pub parameters : IfThere IsAny a.parameters

pub record IsAttribute (a : Attribute) : Type 0 where
  pub identifier : IsIdentifier a.identifier
  pub value : IsAny a.value

-- octets compared as texts, the first difference deciding
abbrev pub is_at_most : List ℕ → List ℕ → Bool
is_at_most a b = is_le (slice_cmp nat_cmp a b)

-- each octets at most the next ones
abbrev pub are_ascending : List (List ℕ) → Bool
are_ascending [] = true
are_ascending (a ∷ []) = true
are_ascending (a ∷ b ∷ s) = is_at_most a b && are_ascending (b ∷ s)

-- one or more, in the order of their octets, equal ones allowed (RFC 5280, 4.1.2.4; X.690, 11.6)
pub record IsRelativeName (attributes : RelativeName) : Type 0 where
  pub some : attributes ≢ []
  pub each : AllByRecursion IsAttribute attributes
  pub ordered : IsTrue (are_ascending (map attribute_octets attributes))

-- a name may have no part (RFC 5280, 4.1.2.6)
abbrev pub IsName : Name → Type 0
IsName = AllByRecursion IsRelativeName

pub record IsKey (k : Key) : Type 0 where
  pub algorithm : IsAlgorithm k.algorithm
  pub key : AreBits k.key

abbrev pub IsExtension : Extension → Type 0
IsExtension e = IsIdentifier e.identifier

abbrev pub AreExtensions : List Extension → Type 0
AreExtensions = AllByRecursion IsExtension

-- A certificate's fields (RFC 5280, 4.1.2). The two algorithms needn't be equal.
pub record AreCertificateFields (c : Certificate) : Type 0 where
  pub version : c.version ≤ 2
  pub serial : IsNumber c.serial
  pub signature : IsAlgorithm c.signature
  pub issuer : IsName c.issuer
  pub not_before : IsTimeField c.not_before
  pub not_after : IsTimeField c.not_after
  pub subject : IsName c.subject
  pub key : IsKey c.key
  pub issuer_id : IfThere AreBits c.issuer_id
  pub subject_id : IfThere AreBits c.subject_id
  pub extensions : AreExtensions c.extensions
  pub algorithm : IsAlgorithm c.algorithm
  pub signature_value : AreBits c.signature_value
  -- unique identifiers with version 2 or 3 only (RFC 5280, 4.1.2.8)
  pub issuer_id_from : c.issuer_id ≢ None → 0 < c.version
  pub subject_id_from : c.subject_id ≢ None → 0 < c.version
  -- extensions with version 3 only (RFC 5280, 4.1.2.9)
  pub extensions_from : c.extensions ≢ [] → c.version ≡ 2

-- an entry of a list of this version; entry extensions with version 2 only (RFC 5280, 5.1.2.6)
pub record IsEntry (version : Option ℕ) (e : Entry) : Type 0 where
  pub serial : IsNumber e.serial
  pub date : IsTimeField e.date
  pub extensions : AreExtensions e.extensions
  pub extensions_from : e.extensions ≢ [] → version ≡ Some 1

-- A list's fields (RFC 5280, 5.1.2). The version, if it is written, is 2 (written 1).
pub record AreListFields (l : RevocationList) : Type 0 where
  pub version : IfThere (λ version. version ≡ 1) l.version
  pub signature : IsAlgorithm l.signature
  pub issuer : IsName l.issuer
  pub this_update : IsTimeField l.this_update
  pub next_update : IfThere IsTimeField l.next_update
  pub entries : AllByRecursion (IsEntry l.version) l.entries
  pub extensions : AreExtensions l.extensions
  pub algorithm : IsAlgorithm l.algorithm
  pub signature_value : AreBits l.signature_value
  -- extensions with version 2 only (RFC 5280, 5.1.2.7)
  pub extensions_from : l.extensions ≢ [] → l.version ≡ Some 1
