-- Distribution points, as they are read leniently (RFC 5280, 4.2.1.13 and 5.2.5). `Box n P` looks at the tag number alone, and what
-- is left of its content is ignored, except at `ToEnd`. `Maybe P` leaves the octets if P doesn't
-- begin them, for whatever reason.
use Rattle.std.specs.Prelude.{◌≡◌, ℕ, Bool, List, Option}
use Rattle.asn1_core.specs.Strict.{Head}
use Rattle.asn1_traits.specs.Booleans.{BooleanMeans, IsStrictBoolean}
use Rattle.x509_core.specs.Grammar.{Grammar, Header, One, Box, ToEnd, Maybe}
use Rattle.x509_core.specs.Leaves.{Leaf}
use Rattle.x509_ext_names.specs.x509_names.specs.Fields.{Attribute}
use Rattle.x509_ext_names.specs.x509_names.specs.Names.{RelativeDistinguishedName}
use Rattle.x509_items.specs.Grammar.{or_false}
use Rattle.x509_ext_names.specs.x509_ext_flags.specs.Flags.{AreSixteen}
use Rattle.x509_ext_names.specs.Names.{GeneralNames}
use Rattle.x509_ext_names.specs.Values.{GeneralName}
use Rattle.x509_ext_points.specs.Values as values

-- a header of this tag number begins the octets, whatever its class and whatever it counts; `after`
-- are the octets after it
pub record BehindHeader (tag : ℕ) (octets after : List ℕ) : Type 0 where
  pub head : Head
  pub header : Header octets head after
  pub tag_is : head.tag ≡ tag

-- DistributionPointName ::= CHOICE { fullName [0] GeneralNames, nameRelativeToCRLIssuer [1] RelativeDistinguishedName }
-- The header's length isn't used. After [1] comes a whole relative name, its header too.
pub data PointName (octets : List ℕ) (n : values.PointName) (rest : List ℕ) : Type 0 where
  full_name :
      (after : List ℕ) (names : List GeneralName) → BehindHeader 0 octets after → GeneralNames after names rest
      → n ≡ values.full_name names → PointName octets n rest
  relative_name :
      (after : List ℕ) (attributes : List Attribute) → BehindHeader 1 octets after → RelativeDistinguishedName after attributes rest
      → n ≡ values.relative_name attributes → PointName octets n rest

-- DistributionPoint ::= SEQUENCE { distributionPoint [0] DistributionPointName OPTIONAL, reasons [1] ReasonFlags OPTIONAL,
--   cRLIssuer [2] GeneralNames OPTIONAL }
-- ReasonFlags ::= BIT STRING { unused (0), keyCompromise (1), cACompromise (2), affiliationChanged (3), superseded (4),
--   cessationOfOperation (5), certificateHold (6), privilegeWithdrawn (7), aACompromise (8) } (RFC 5280, 4.2.1.13)
pub record DistributionPointParts (octets : List ℕ) (d : values.DistributionPoint) (rest : List ℕ) : Type 0 where
  pub after_point : List ℕ
  pub distribution_point : Maybe (Box 0 PointName) octets d.distribution_point after_point
  pub after_reasons : List ℕ
  pub reasons : Maybe (One (Leaf 1 AreSixteen)) after_point d.reasons after_reasons
  pub crl_issuer : Maybe (Box 2 GeneralNames) after_reasons d.crl_issuer rest

abbrev pub DistributionPoint : Grammar values.DistributionPoint
DistributionPoint = Box 16 DistributionPointParts

-- CRLDistributionPoints ::= SEQUENCE SIZE (1..MAX) OF DistributionPoint (RFC 5280, 4.2.1.13); none is taken too
abbrev pub CRLDistributionPoints : Grammar (List values.DistributionPoint)
CRLDistributionPoints = Box 16 (ToEnd DistributionPoint)

-- BOOLEAN of DER: 00 or ff (X.690, 8.2 and 11.1)
pub record IsTruth (content : List ℕ) (b : Bool) : Type 0 where
  pub strict : IsStrictBoolean content
  pub means : BooleanMeans content b

-- [n] BOOLEAN DEFAULT FALSE: what isn't a strict boolean is left, and counts as false
pub record Flag (n : ℕ) (octets : List ℕ) (b : Bool) (rest : List ℕ) : Type 0 where
  pub written : Option Bool
  pub there : Maybe (One (Leaf n IsTruth)) octets written rest
  pub value : b ≡ or_false written

-- IssuingDistributionPoint ::= SEQUENCE {                               (RFC 5280, 5.2.5)
--   distributionPoint          [0] DistributionPointName OPTIONAL,
--   onlyContainsUserCerts      [1] BOOLEAN DEFAULT FALSE,
--   onlyContainsCACerts        [2] BOOLEAN DEFAULT FALSE,
--   onlySomeReasons            [3] ReasonFlags OPTIONAL,
--   indirectCRL                [4] BOOLEAN DEFAULT FALSE,
--   onlyContainsAttributeCerts [5] BOOLEAN DEFAULT FALSE }
pub record IssuingParts (octets : List ℕ) (d : values.IssuingDistributionPoint) (rest : List ℕ) : Type 0 where
  pub after_point : List ℕ
  pub distribution_point : Maybe (Box 0 PointName) octets d.distribution_point after_point
  pub after_user : List ℕ
  pub only_contains_user_certs : Flag 1 after_point d.only_contains_user_certs after_user
  pub after_ca : List ℕ
  pub only_contains_ca_certs : Flag 2 after_user d.only_contains_ca_certs after_ca
  pub after_reasons : List ℕ
  pub only_some_reasons : Maybe (One (Leaf 3 AreSixteen)) after_ca d.only_some_reasons after_reasons
  pub after_indirect : List ℕ
  pub indirect_crl : Flag 4 after_reasons d.indirect_crl after_indirect
  pub only_contains_attribute_certs : Flag 5 after_indirect d.only_contains_attribute_certs rest

abbrev pub IssuingDistributionPoint : Grammar values.IssuingDistributionPoint
IssuingDistributionPoint = Box 16 IssuingParts
