-- Why a text is no host, in words.
use Rattle.std.specs.Prelude.{ℕ, List, codes}
use Rattle.host_names.specs.declared.refusal.Refusal.{Refusal}
use Rattle.host_names.specs.declared.refusal.Refusal.TheVariants.{Empty, Url, EmailAddress, Wildcard, Zone, Port, NoAddress, NotAscii, Character, LongName, EmptyLabel, LongLabel, Hyphen, Number}

abbrev pub host_reason : Refusal → List ℕ
host_reason Empty = codes "it is empty"
host_reason Url = codes "it is a URL or has a path"
host_reason EmailAddress = codes "it is an e-mail address"
host_reason Wildcard = codes "it has a wildcard"
host_reason Zone = codes "it has a zone"
host_reason Port = codes "it has a port"
host_reason NoAddress = codes "it is no IPv6 address"
host_reason NotAscii = codes "it has a character outside ASCII; such a label is written xn--.."
host_reason Character = codes "it has a character that no name has"
host_reason LongName = codes "it has more than 253 octets"
host_reason EmptyLabel = codes "it has an empty label"
host_reason LongLabel = codes "it has a label of more than 63 octets"
host_reason Hyphen = codes "it has a label with a hyphen at an end"
host_reason Number = codes "its last label is a number, and it is no IPv4 address"
