-- A purpose as it is shown. This page is to be believed.
use Rattle.std.specs.Prelude.{◌≡◌, ◌≢◌, ◌⊎◌, ℕ, List}
use Rattle.asn1_oid.specs.Text.{oid_text}
use Rattle.purpose_names.specs.declared.naming.NamedPurpose.{NamedPurpose}
use Rattle.purpose_names.specs.Names.{name_of, identifier_of}

-- the name of a purpose in RFC 5280, or else the numbers of its identifier
abbrev pub IsShown : List ℕ → List ℕ → Type 0
IsShown identifier shown =
    ((p : NamedPurpose) × (identifier ≡ identifier_of p) × (shown ≡ name_of p)) ⊎ (((p : NamedPurpose) → identifier ≢ identifier_of p) × (shown ≡ oid_text identifier))
