-- The text of a general name, as `DNSName(host)`. Texts are given as their octets.
use Rattle.std.specs.Prelude.{ℕ, List, ◌++◌, codes, decimal}
use Rattle.asn1_oid.specs.Text.{oid_text}
use Rattle.x509_ext_names.specs.Values.{GeneralName, other_name, rfc822_name, dns_name, x400_address, directory_name, edi_party_name, uri, ip_address, registered_id, invalid}
use Rattle.x509_items.specs.Texts.{serial_text}
use Rattle.x509_ext_flags.specs.x509_names.specs.NameTexts.{shown_name}

-- the kind, and in parentheses what it holds; of a name of another kind than the nine its tag number and its octets
abbrev pub general_text : GeneralName → List ℕ
general_text (other_name identifier octets) = codes "OtherName(" ++ oid_text identifier ++ codes ", [...])"
general_text (rfc822_name text) = codes "RFC822Name(" ++ text ++ codes ")"
general_text (dns_name text) = codes "DNSName(" ++ text ++ codes ")"
general_text (x400_address any) = codes "X400Address(<unparsed>)"
general_text (directory_name name) = codes "DirectoryName(" ++ shown_name name ++ codes ")"
general_text (edi_party_name any) = codes "EDIPartyName(<unparsed>)"
general_text (uri text) = codes "URI(" ++ text ++ codes ")"
general_text (ip_address octets) = codes "IPAddress(" ++ serial_text octets ++ codes ")"
general_text (registered_id identifier) = codes "RegisteredID(" ++ oid_text identifier ++ codes ")"
general_text (invalid tag octets) = codes "Invalid(tag=" ++ decimal tag ++ codes ", data=" ++ serial_text octets ++ codes ")"
