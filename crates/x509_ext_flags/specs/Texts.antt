-- The texts of reasons, of flags and of key identifiers.
use Rattle.std.specs.Prelude.{ℕ, Bool, zero, suc, ◌==◌, if◌then◌else◌, List, [], ◌∷◌, ◌++◌, codes, decimal}
use Rattle.std.specs.List.{join_by}
use Rattle.x509_ext_flags.specs.Flags.{bit_of}
pub use Rattle.x509_items.specs.Texts.{serial_text}

-- CRLReason (RFC 5280, 5.3.1), or the number
abbrev pub reason_text : ℕ → List ℕ
reason_text n =
    if n == 0 then codes "Unspecified" else
    if n == 1 then codes "KeyCompromise" else
    if n == 2 then codes "CACompromise" else
    if n == 3 then codes "AffiliationChanged" else
    if n == 4 then codes "Superseded" else
    if n == 5 then codes "CessationOfOperation" else
    if n == 6 then codes "CertificateHold" else
    if n == 8 then codes "RemoveFromCRL" else
    if n == 9 then codes "PrivilegeWithdrawn" else
    if n == 10 then codes "AACompromise" else
    codes "ReasonCode(" ++ decimal n ++ codes ")"

-- the names of the flags that are set, of so many from this bit on
unfoldable pub names_set : (ℕ → List ℕ) → ℕ → ℕ → ℕ → List (List ℕ)
names_set name flags zero at = []
names_set name flags (suc n) at =
    if bit_of flags at then name at ∷ names_set name flags n (suc at) else names_set name flags n (suc at)

-- joined by `, `, in the order of the bits
abbrev pub joined_names : List (List ℕ) → List ℕ
joined_names names = join_by (λ name. name) (codes ", ") names

abbrev pub flags_text : (ℕ → List ℕ) → ℕ → ℕ → List ℕ
flags_text name width flags = joined_names (names_set name flags width 0)

-- what is written of a flag: nothing, or its name, after a comma if something was written before
abbrev pub name_piece : Bool → Bool → List ℕ → List ℕ
name_piece set begun name = if set then (if begun then codes ", " ++ name else name) else []

-- the nine bits of a key's use (RFC 5280, 4.2.1.3); other flags have no name
abbrev pub usage_name : ℕ → List ℕ
usage_name bit =
    if bit == 0 then codes "Digital Signature" else
    if bit == 1 then codes "Non Repudiation" else
    if bit == 2 then codes "Key Encipherment" else
    if bit == 3 then codes "Data Encipherment" else
    if bit == 4 then codes "Key Agreement" else
    if bit == 5 then codes "Key Cert Sign" else
    if bit == 6 then codes "CRL Sign" else
    if bit == 7 then codes "Encipher Only" else
    if bit == 8 then codes "Decipher Only" else
    []

abbrev pub usage_text : ℕ → List ℕ
usage_text flags = flags_text usage_name 9 flags

-- the nine bits of reasons (RFC 5280, 4.2.1.13)
abbrev pub reason_name : ℕ → List ℕ
reason_name bit =
    if bit == 0 then codes "Unused" else
    if bit == 1 then codes "Key Compromise" else
    if bit == 2 then codes "CA Compromise" else
    if bit == 3 then codes "Affiliation Changed" else
    if bit == 4 then codes "Superseded" else
    if bit == 5 then codes "Cessation Of Operation" else
    if bit == 6 then codes "Certificate Hold" else
    if bit == 7 then codes "Privilege Withdrawn" else
    if bit == 8 then codes "AA Compromise" else
    []

abbrev pub reasons_text : ℕ → List ℕ
reasons_text flags = flags_text reason_name 9 flags

-- the eight bits of Netscape's types; the first is so spelled
abbrev pub netscape_name : ℕ → List ℕ
netscape_name bit =
    if bit == 0 then codes "SSL CLient" else
    if bit == 1 then codes "SSL Server" else
    if bit == 2 then codes "S/MIME" else
    if bit == 3 then codes "Object Signing" else
    if bit == 4 then codes "Reserved" else
    if bit == 5 then codes "SSL CA" else
    if bit == 6 then codes "S/MIME CA" else
    if bit == 7 then codes "Object Signing CA" else
    []

abbrev pub netscape_text : ℕ → List ℕ
netscape_text flags = flags_text netscape_name 8 flags
