-- GeneralName (RFC 5280, 4.2.1.6).
use Rattle.std.specs.Prelude.{◌≡◌, ◌⊎◌, ℕ, List, []}
use Rattle.std.specs.Str.{IsUtf8}
use Rattle.asn1_core.specs.Elements.{Element}
use Rattle.asn1_any.specs.Cutting.{Piece}
use Rattle.x509_core.specs.Grammar.{Grammar, One}
use Rattle.x509_core.specs.Leaves.{IsOid}
use Rattle.x509_ext_flags.specs.x509_names.specs.Fields.{Name}
use Rattle.x509_ext_flags.specs.x509_names.specs.Names.{X509Name}
use Rattle.x509_items.specs.Grammar.{OneOrMore}
use Rattle.x509_ext_names.specs.Values as values

-- GeneralName ::= CHOICE {
--   otherName                 [0] AnotherName,      -- AnotherName ::= SEQUENCE { type-id OBJECT IDENTIFIER, value [0] EXPLICIT ANY }
--   rfc822Name                [1] IA5String,
--   dNSName                   [2] IA5String,
--   x400Address               [3] ORAddress,
--   directoryName             [4] Name,
--   ediPartyName              [5] EDIPartyName,
--   uniformResourceIdentifier [6] IA5String,
--   iPAddress                 [7] OCTET STRING,
--   registeredID              [8] OBJECT IDENTIFIER }
-- One case a tag number. The constructed bit plays no part; texts are any UTF-8; a directory name is all of the content.
pub data IsEntry (e : Element) (n : values.GeneralName) : Type 0 where
  other_name : (id left : List ℕ) → e.tag ≡ 0 → One IsOid e.content id left → n ≡ values.other_name id left → IsEntry e n
  rfc822_name : e.tag ≡ 1 → IsUtf8 e.content → n ≡ values.rfc822_name e.content → IsEntry e n
  dns_name : e.tag ≡ 2 → IsUtf8 e.content → n ≡ values.dns_name e.content → IsEntry e n
  x400_address : e.tag ≡ 3 → n ≡ values.x400_address e → IsEntry e n
  directory_name : (name : Name) → e.tag ≡ 4 → X509Name e.content name [] → n ≡ values.directory_name name → IsEntry e n
  edi_party_name : e.tag ≡ 5 → n ≡ values.edi_party_name e → IsEntry e n
  uri : e.tag ≡ 6 → IsUtf8 e.content → n ≡ values.uri e.content → IsEntry e n
  ip_address : e.tag ≡ 7 → n ≡ values.ip_address e.content → IsEntry e n
  registered_id : e.tag ≡ 8 → n ≡ values.registered_id e.content → IsEntry e n

-- no case fits, for want of such a content or of such a tag number
abbrev pub IsNoEntry : Element → Type 0
IsNoEntry e = (n : values.GeneralName) → IsEntry e n → ⊥

-- an element of the context class; if it is no entry, its tag number and its content are kept
pub record IsGeneralName (p : Piece) (n : values.GeneralName) : Type 0 where
  pub class : p.element.class ≡ 2
  pub entry : IsEntry p.element n ⊎ (IsNoEntry p.element × (n ≡ values.invalid p.element.tag p.element.content))

abbrev pub GeneralName : Grammar values.GeneralName
GeneralName = One IsGeneralName

-- GeneralNames ::= SEQUENCE SIZE (1..MAX) OF GeneralName, without the sequence's header
abbrev pub GeneralNames : Grammar (List values.GeneralName)
GeneralNames = OneOrMore GeneralName
