-- Which hosts a certificate names, in words (RFC 5280, 4.2.1.6). This page is to be believed.
use Rattle.std.specs.Prelude.{◌≡◌, ◌⊎◌, ℕ, Bool, true, false, ◌==◌, if◌then◌else◌, List, [], ◌∷◌, ◌++◌, length, codes}
use Rattle.std.specs.List.{filter}
use Rattle.std.specs.Net.Addr.{segments_of}
use Rattle.std.specs.Net.Text.{ipv4_text, ipv6_text}
use Rattle.x509_names.specs.NameTexts.{upper_hex}
use Rattle.cert_model.specs.Fields.{Extension}
use Rattle.cert_model.specs.Extended.{IsWithout}
use Rattle.cert_purpose.specs.Found.{AreMore}
use Rattle.cert_purpose.specs.Purposes.{IsOneUnder}
use Rattle.cert_serving.specs.declared.names.Choice.{Choice}
use Rattle.cert_serving.specs.declared.names.Choice.TheVariants.{DnsName, IpAddress}
use Rattle.cert_serving.specs.GeneralNames.{GeneralName, AreGeneralNames}
use Rattle.cert_serving.specs.Serving.{subject_alt_name}
use Rattle.certpath_why.specs.Listed.{listed}

-- an address as it is usually written, of IPv6 as RFC 5952 has it; octets of another number are none, and shown as `#0A00`
abbrev pub address_text : List ℕ → List ℕ
address_text octets = if length octets == 4 then ipv4_text octets else (if length octets == 16 then ipv6_text (segments_of octets) else 35 ∷ upper_hex octets)

-- a dNSName or an iPAddress: other names are no host's
abbrev pub is_host_choice : Choice → Bool
is_host_choice DnsName = true
is_host_choice IpAddress = true
is_host_choice _ = false

abbrev pub hosts_among : List GeneralName → List GeneralName
hosts_among gs = filter (λ g. is_host_choice g.choice) gs

-- the text of a name: of a dNSName its characters
abbrev pub text_by : Choice → List ℕ → List ℕ
text_by IpAddress content = address_text content
text_by _ content = content

abbrev pub host_text : GeneralName → List ℕ
host_text g = text_by g.choice g.content

abbrev pub hosts_words : List GeneralName → List ℕ
hosts_words [] = codes "it names no host"
hosts_words (g ∷ gs) = codes "it names " ++ listed host_text (g ∷ gs)

-- of a value: the hosts among its names in their order
abbrev pub AreNamesWords : List ℕ → List ℕ → Type 0
AreNamesWords value words =
    ((gs : List GeneralName) × AreGeneralNames value gs × (words ≡ hosts_words (hosts_among gs)))
    ⊎ (((gs : List GeneralName) → ¬ AreGeneralNames value gs) × (words ≡ codes "its subjectAltName isn't well written"))

-- of extensions: of the one subjectAltName, or that there is none, or more
abbrev pub AreHostsWords : List Extension → List ℕ → Type 0
AreHostsWords es words =
    (IsWithout subject_alt_name es × (words ≡ hosts_words []))
    ⊎ (((value : List ℕ) × IsOneUnder subject_alt_name es value × AreNamesWords value words)
    ⊎ (AreMore subject_alt_name es × (words ≡ codes "it has more than one subjectAltName")))
