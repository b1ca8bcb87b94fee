-- Names of a subjectAltName (RFC 5280, 4.2.1.6), from names to octets.
use Rattle.std.specs.Prelude.{◌≡◌, ◌≢◌, ℕ, Bool, true, false, List, [], ◌∷◌}
use Rattle.std.specs.List.{flat_map, AllByRecursion}
use Rattle.std.specs.Str.{IsAscii}
use Rattle.asn1_core.specs.Elements.{Element, element_octets}
use Rattle.asn1_oid.specs.Identifier.{IsOidContent}
use Rattle.cert_model.specs.Octets.{sequence_octets}
use Rattle.cert_serving.specs.declared.names.Choice.{Choice}
use Rattle.cert_serving.specs.declared.names.Choice.TheVariants.{OtherName, Rfc822Name, DnsName, X400Address, DirectoryName, EdiPartyName, Uri, IpAddress, RegisteredId}

-- GeneralName ::= CHOICE {
--   otherName                 [0] OtherName,
--   rfc822Name                [1] IA5String,
--   dNSName                   [2] IA5String,
--   x400Address               [3] ORAddress,
--   directoryName             [4] Name,
--   ediPartyName              [5] EDIPartyName,
--   uniformResourceIdentifier [6] IA5String,
--   iPAddress                 [7] OCTET STRING,
--   registeredID              [8] OBJECT IDENTIFIER }
abbrev pub tag_of : Choice → ℕ
tag_of OtherName = 0
tag_of Rfc822Name = 1
tag_of DnsName = 2
tag_of X400Address = 3
tag_of DirectoryName = 4
tag_of EdiPartyName = 5
tag_of Uri = 6
tag_of IpAddress = 7
tag_of RegisteredId = 8

-- The tags are IMPLICIT: a SEQUENCE keeps its parts. A Name is a CHOICE itself, so [4] holds it as
-- its part (X.680, 31.2.7).
abbrev pub has_parts : Choice → Bool
has_parts OtherName = true
has_parts X400Address = true
has_parts DirectoryName = true
has_parts EdiPartyName = true
has_parts _ = false

-- What is looked into: the characters of an IA5String are ASCII (X.690, 8.23), and an identifier is
-- in its one spelling. An OCTET STRING is any octets: an address of another length than 4 or 16 is
-- no host's. What has parts isn't looked into: it names no host, and takes memory or recursion to
-- read.
abbrev pub HasContentOf : Choice → List ℕ → Type 0
HasContentOf Rfc822Name = IsAscii
HasContentOf DnsName = IsAscii
HasContentOf Uri = IsAscii
HasContentOf RegisteredId = IsOidContent
HasContentOf _ = λ content. Unit {0}

-- a name, by the content octets of its element
pub record GeneralName : Type 0 where
  pub choice : Choice
  pub content : List ℕ

abbrev pub IsGeneralName : GeneralName → Type 0
IsGeneralName g = HasContentOf g.choice g.content

abbrev pub element_of_name : GeneralName → Element
element_of_name g = record { class = 2; constructed = has_parts g.choice; tag = tag_of g.choice; content = g.content }

abbrev pub general_name_octets : GeneralName → List ℕ
general_name_octets g = element_octets (element_of_name g)

-- GeneralNames ::= SEQUENCE SIZE (1..MAX) OF GeneralName
abbrev pub general_names_octets : List GeneralName → List ℕ
general_names_octets gs = sequence_octets (flat_map general_name_octets gs)

pub record AreGeneralNames (value : List ℕ) (gs : List GeneralName) : Type 0 where
  pub some : gs ≢ []
  pub each : AllByRecursion IsGeneralName gs
  pub spelled : value ≡ general_names_octets gs
