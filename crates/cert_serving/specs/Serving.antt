-- Which certificates serve a host (RFC 9525, 6; RFC 5280, 4.2.1.6).
use Rattle.std.specs.Prelude.{◌≡◌, ℕ, List, Contains}
use Rattle.std.specs.List.{flat_map, AllByRecursion}
use Rattle.cert_model.specs.Fields.{Identifier, Extension}
use Rattle.cert_model.specs.Extended.{under_ce}
use Rattle.cert_purpose.specs.Purposes.{IsOneUnder}
use Rattle.host_names.specs.Asked.{Asked, name, address}
use Rattle.host_names.specs.Hosts.{Matches}
use Rattle.cert_serving.specs.declared.names.Choice.TheVariants.{DnsName, IpAddress}
use Rattle.cert_serving.specs.GeneralNames.{GeneralName, IsGeneralName, general_name_octets, AreGeneralNames}

-- subjectAltName, 2.5.29.17
abbrev pub subject_alt_name : Identifier
subject_alt_name = under_ce 17

-- A dNSName that matches the host's name, or an iPAddress of the host's octets: never the one for
-- the other.
abbrev pub IsNameOf : Asked → GeneralName → Type 0
IsNameOf (name host) g = (g.choice ≡ DnsName) × Matches g.content host
IsNameOf (address octets) g = (g.choice ≡ IpAddress) × (g.content ≡ octets)

abbrev pub HasNameOf : Asked → List GeneralName → Type 0
HasNameOf host gs = (g : GeneralName) × Contains gs g × IsNameOf host g

-- a value of subjectAltName with a name of the host
abbrev pub Names : Asked → List ℕ → Type 0
Names host value = (gs : List GeneralName) × AreGeneralNames value gs × HasNameOf host gs

-- The extensions of a certificate that serves a host: exactly one subjectAltName, with a name of
-- the host. Nothing else of the certificate is asked, so never the common name of its subject
-- (RFC 9525, 6.4.4).
abbrev pub Serves : Asked → List Extension → Type 0
Serves host es = (value : List ℕ) × IsOneUnder subject_alt_name es value × Names host value

-- content octets of names, among which one is the host's
abbrev pub AreNames : Asked → List ℕ → Type 0
AreNames host content =
    (gs : List GeneralName) × AllByRecursion IsGeneralName gs × (content ≡ flat_map general_name_octets gs) × HasNameOf host gs
