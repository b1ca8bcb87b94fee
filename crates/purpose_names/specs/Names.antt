-- The purposes that RFC 5280 names (4.2.1.12). This page is to be believed.
use Rattle.std.specs.Prelude.{◌≡◌, ◌⊎◌, ℕ, List, [], ◌∷◌, map, codes}
use Rattle.std.specs.Char.{to_ascii_lowercase}
use Rattle.purpose_names.specs.declared.naming.NamedPurpose.{NamedPurpose}
use Rattle.purpose_names.specs.declared.naming.NamedPurpose.TheVariants.{ServerAuth, ClientAuth, CodeSigning, EmailProtection, TimeStamping, OcspSigning}

abbrev pub name_of : NamedPurpose → List ℕ
name_of ServerAuth = codes "serverAuth"
name_of ClientAuth = codes "clientAuth"
name_of CodeSigning = codes "codeSigning"
name_of EmailProtection = codes "emailProtection"
name_of TimeStamping = codes "timeStamping"
name_of OcspSigning = codes "OCSPSigning"

-- the last number of the identifier
abbrev pub arc_of : NamedPurpose → ℕ
arc_of ServerAuth = 1
arc_of ClientAuth = 2
arc_of CodeSigning = 3
arc_of EmailProtection = 4
arc_of TimeStamping = 8
arc_of OcspSigning = 9

-- below id-kp, 1.3.6.1.5.5.7.3
abbrev pub identifier_of : NamedPurpose → List ℕ
identifier_of p = 0x2b ∷ 6 ∷ 1 ∷ 5 ∷ 5 ∷ 7 ∷ 3 ∷ arc_of p ∷ []

-- a text is a word, letters of ASCII without case
abbrev pub IsWord : List ℕ → List ℕ → Type 0
IsWord text word = map to_ascii_lowercase text ≡ map to_ascii_lowercase word

-- the words for a purpose: its name, and those of `openssl verify -purpose`
abbrev pub IsWordOf : List ℕ → NamedPurpose → Type 0
IsWordOf text ServerAuth = IsWord text (codes "serverAuth") ⊎ (IsWord text (codes "server") ⊎ IsWord text (codes "sslserver"))
IsWordOf text ClientAuth = IsWord text (codes "clientAuth") ⊎ (IsWord text (codes "client") ⊎ IsWord text (codes "sslclient"))
IsWordOf text CodeSigning = IsWord text (codes "codeSigning") ⊎ IsWord text (codes "codesign")
IsWordOf text EmailProtection = IsWord text (codes "emailProtection") ⊎ (IsWord text (codes "smimesign") ⊎ IsWord text (codes "smimeencrypt"))
IsWordOf text TimeStamping = IsWord text (codes "timeStamping") ⊎ IsWord text (codes "timestampsign")
IsWordOf text OcspSigning = IsWord text (codes "OCSPSigning")
