-- Extension values that are a flag, a number or octets, as they are read leniently (RFC 5280, 4.2). A leaf is primitive; its tag
-- number is compared, its class isn't. `Maybe P` leaves the octets if P doesn't begin them, for
-- whatever reason.
use Rattle.std.specs.Prelude.{◌≡◌, ℕ, List, []}
use Rattle.x509_core.specs.Grammar.{Grammar, One, Box, Maybe}
use Rattle.x509_core.specs.Leaves.{Leaf, IsOctets}
use Rattle.x509_ext_flags.specs.Flags.{AreSixteen, AreEight}
use Rattle.x509_ext_flags.specs.Numbers.{IsNumber}
use Rattle.x509_ext_flags.specs.Values as values

-- SubjectKeyIdentifier ::= KeyIdentifier, KeyIdentifier ::= OCTET STRING (RFC 5280, 4.2.1.2)
abbrev pub KeyIdentifier : Grammar (List ℕ)
KeyIdentifier = One IsOctets

-- KeyUsage ::= BIT STRING { digitalSignature (0), nonRepudiation (1), keyEncipherment (2), dataEncipherment (3), keyAgreement (4),
--   keyCertSign (5), cRLSign (6), encipherOnly (7), decipherOnly (8) } (RFC 5280, 4.2.1.3)
abbrev pub KeyUsage : Grammar ℕ
KeyUsage = One (Leaf 3 AreSixteen)

-- Netscape's certificate type ::= BIT STRING of one octet
abbrev pub NetscapeType : Grammar ℕ
NetscapeType = One (Leaf 3 AreEight)

-- PolicyConstraints ::= SEQUENCE { requireExplicitPolicy [0] SkipCerts OPTIONAL, inhibitPolicyMapping [1] SkipCerts OPTIONAL },
-- SkipCerts ::= INTEGER (0..MAX) (RFC 5280, 4.2.1.11); nothing is left
pub record PolicyConstraintsParts (octets : List ℕ) (c : values.PolicyConstraints) (rest : List ℕ) : Type 0 where
  pub after_explicit : List ℕ
  pub require_explicit_policy : Maybe (One (Leaf 0 IsNumber)) octets c.require_explicit_policy after_explicit
  pub inhibit_policy_mapping : Maybe (One (Leaf 1 IsNumber)) after_explicit c.inhibit_policy_mapping rest
  pub all_read : rest ≡ []

abbrev pub PolicyConstraints : Grammar values.PolicyConstraints
PolicyConstraints = Box 16 PolicyConstraintsParts

-- InhibitAnyPolicy ::= SkipCerts (RFC 5280, 4.2.1.14)
abbrev pub InhibitAnyPolicy : Grammar ℕ
InhibitAnyPolicy = One (Leaf 2 IsNumber)
