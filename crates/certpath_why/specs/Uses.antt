-- What a certificate is for, in words (RFC 5280, 4.2.1.12). This page is to be believed.
use Rattle.std.specs.Prelude.{◌≡◌, ◌⊎◌, ℕ, List, ◌++◌, codes, bytes_eq, if◌then◌else◌}
use Rattle.asn1_oid.specs.Text.{oid_text}
use Rattle.cert_model.specs.Fields.{Identifier, Extension}
use Rattle.cert_purpose.specs.Found.{AreMore}
use Rattle.cert_purpose.specs.Purposes.{extended_key_usage, ArePurposes, IsOneUnder}
use Rattle.purpose_names.specs.Names.{name_of, identifier_of}
use Rattle.purpose_names.specs.declared.naming.NamedPurpose.TheVariants.{ServerAuth, ClientAuth, CodeSigning, EmailProtection, TimeStamping, OcspSigning}
use Rattle.certpath_why.specs.Listed.{listed}

-- a purpose by its name in RFC 5280, or else by the numbers of its identifier
abbrev pub purpose_text : Identifier → List ℕ
purpose_text id =
    if bytes_eq id (identifier_of ServerAuth) then name_of ServerAuth
    else (if bytes_eq id (identifier_of ClientAuth) then name_of ClientAuth
    else (if bytes_eq id (identifier_of CodeSigning) then name_of CodeSigning
    else (if bytes_eq id (identifier_of EmailProtection) then name_of EmailProtection
    else (if bytes_eq id (identifier_of TimeStamping) then name_of TimeStamping
    else (if bytes_eq id (identifier_of OcspSigning) then name_of OcspSigning else oid_text id)))))

-- of a value: its purposes in their order, or that it has none
abbrev pub ArePurposesWords : List ℕ → List ℕ → Type 0
ArePurposesWords value words =
    ((ps : List Identifier) × ArePurposes value ps × (words ≡ codes "it is for " ++ listed purpose_text ps))
    ⊎ (((ps : List Identifier) → ¬ ArePurposes value ps) × (words ≡ codes "its extKeyUsage isn't well written"))

-- of extensions: of the one extKeyUsage, or that there are more; without one a certificate is for each purpose, and there are no words
abbrev pub AreUsesWords : List Extension → List ℕ → Type 0
AreUsesWords es words =
    ((value : List ℕ) × IsOneUnder extended_key_usage es value × ArePurposesWords value words)
    ⊎ (AreMore extended_key_usage es × (words ≡ codes "it has more than one extKeyUsage"))
