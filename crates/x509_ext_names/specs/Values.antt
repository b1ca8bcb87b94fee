-- What the values of this crate's types stand for. Texts are given as their octets, object
-- identifiers as their content octets.
use Rattle.std.specs.Prelude.{ℕ, List, Option}
use Rattle.asn1_core.specs.Elements.{Element}
use Rattle.x509_ext_flags.specs.x509_names.specs.Fields.{Name}

-- GeneralName (RFC 5280, 4.2.1.6); `invalid` has the tag number and the content of an entry that is none
pub data GeneralName : Type 0 where
  other_name : List ℕ → List ℕ → GeneralName
  rfc822_name : List ℕ → GeneralName
  dns_name : List ℕ → GeneralName
  x400_address : Element → GeneralName
  directory_name : Name → GeneralName
  edi_party_name : Element → GeneralName
  uri : List ℕ → GeneralName
  ip_address : List ℕ → GeneralName
  registered_id : List ℕ → GeneralName
  invalid : ℕ → List ℕ → GeneralName

-- AuthorityKeyIdentifier (RFC 5280, 4.2.1.1); the serial as its content
pub record AuthorityKeyIdentifier : Type 0 where
  pub key_identifier : Option (List ℕ)
  pub authority_cert_issuer : Option (List GeneralName)
  pub authority_cert_serial : Option (List ℕ)

-- NameConstraints (RFC 5280, 4.2.1.10); a subtree is its base
pub record NameConstraints : Type 0 where
  pub permitted_subtrees : Option (List GeneralName)
  pub excluded_subtrees : Option (List GeneralName)

-- AccessDescription (RFC 5280, 4.2.2.1)
pub record AccessDescription : Type 0 where
  pub access_method : List ℕ
  pub access_location : GeneralName
