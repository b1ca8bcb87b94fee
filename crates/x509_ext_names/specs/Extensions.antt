-- Extension values that hold general names, as they are read leniently (RFC 5280, 4.2). `Box n P` looks at the tag number alone; what
-- is left of its content is ignored, except at `ToEnd` or `Ended`. `Maybe P` leaves the octets if P
-- doesn't begin them, for whatever reason.
use Rattle.std.specs.Prelude.{◌≡◌, ℕ, List}
use Rattle.asn1_any.specs.Cutting.{Piece}
use Rattle.x509_core.specs.Grammar.{Grammar, One, Box, AsMany, ToEnd, Maybe}
use Rattle.x509_core.specs.Leaves.{IsOid}
use Rattle.x509_ext_flags.specs.x509_names.specs.Leaves.{IsInteger}
use Rattle.x509_items.specs.Grammar.{OneOrMore, Ended}
use Rattle.x509_ext_names.specs.Names.{GeneralName}
use Rattle.x509_ext_names.specs.Values as values

-- an element of this tag number, whatever its class and its constructed bit: its content
pub record IsTagged (n : ℕ) (p : Piece) (v : List ℕ) : Type 0 where
  pub tag : p.element.tag ≡ n
  pub value : v ≡ p.element.content

-- AuthorityKeyIdentifier ::= SEQUENCE {                                  (RFC 5280, 4.2.1.1)
--   keyIdentifier             [0] KeyIdentifier           OPTIONAL,
--   authorityCertIssuer       [1] GeneralNames            OPTIONAL,
--   authorityCertSerialNumber [2] CertificateSerialNumber OPTIONAL }
-- The issuer may have no name: its names are as many as begin. The serial number is a primitive element, of the fewest octets.
pub record AuthorityKeyIdentifierParts (octets : List ℕ) (a : values.AuthorityKeyIdentifier) (rest : List ℕ) : Type 0 where
  pub after_key : List ℕ
  pub key_identifier : Maybe (One (IsTagged 0)) octets a.key_identifier after_key
  pub after_issuer : List ℕ
  pub authority_cert_issuer : Maybe (Box 1 (AsMany GeneralName)) after_key a.authority_cert_issuer after_issuer
  pub authority_cert_serial : Maybe (One IsInteger) after_issuer a.authority_cert_serial rest

abbrev pub AuthorityKeyIdentifier : Grammar values.AuthorityKeyIdentifier
AuthorityKeyIdentifier = Box 16 AuthorityKeyIdentifierParts

-- SubjectAltName ::= GeneralNames, IssuerAltName ::= GeneralNames (RFC 5280, 4.2.1.6 and 4.2.1.7); none is taken too
abbrev pub AlternativeName : Grammar (List values.GeneralName)
AlternativeName = Box 16 (ToEnd GeneralName)

-- GeneralSubtree ::= SEQUENCE { base GeneralName, minimum [0] BaseDistance DEFAULT 0, maximum [1] BaseDistance OPTIONAL }
-- (RFC 5280, 4.2.1.10); what comes after the base is ignored
abbrev pub GeneralSubtree : Grammar values.GeneralName
GeneralSubtree = Box 16 GeneralName

-- GeneralSubtrees ::= SEQUENCE SIZE (1..MAX) OF GeneralSubtree, without the sequence's header, to the end
abbrev pub GeneralSubtrees : Grammar (List values.GeneralName)
GeneralSubtrees = Ended (OneOrMore GeneralSubtree)

-- NameConstraints ::= SEQUENCE { permittedSubtrees [0] GeneralSubtrees OPTIONAL, excludedSubtrees [1] GeneralSubtrees OPTIONAL }
-- (RFC 5280, 4.2.1.10)
pub record NameConstraintsParts (octets : List ℕ) (c : values.NameConstraints) (rest : List ℕ) : Type 0 where
  pub after_permitted : List ℕ
  pub permitted_subtrees : Maybe (Box 0 GeneralSubtrees) octets c.permitted_subtrees after_permitted
  pub excluded_subtrees : Maybe (Box 1 GeneralSubtrees) after_permitted c.excluded_subtrees rest

abbrev pub NameConstraints : Grammar values.NameConstraints
NameConstraints = Box 16 NameConstraintsParts

-- AccessDescription ::= SEQUENCE { accessMethod OBJECT IDENTIFIER, accessLocation GeneralName } (RFC 5280, 4.2.2.1)
pub record AccessParts (octets : List ℕ) (a : values.AccessDescription) (rest : List ℕ) : Type 0 where
  pub after_method : List ℕ
  pub access_method : One IsOid octets a.access_method after_method
  pub access_location : GeneralName after_method a.access_location rest

abbrev pub AccessDescription : Grammar values.AccessDescription
AccessDescription = Box 16 AccessParts

-- AuthorityInfoAccessSyntax, SubjectInfoAccessSyntax ::= SEQUENCE SIZE (1..MAX) OF AccessDescription (RFC 5280, 4.2.2.1 and 4.2.2.2);
-- none is taken too
abbrev pub InfoAccess : Grammar (List values.AccessDescription)
InfoAccess = Box 16 (ToEnd AccessDescription)
