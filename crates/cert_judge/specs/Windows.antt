-- Where the names and the key are among the parts of a certificate, and the issuer among those of a
-- list.
use Rattle.std.specs.Prelude.{ℕ, if◌then◌else◌, nat_lt, Option, Some, None, List, [], ◌∷◌, ◌++◌}
use Rattle.std.specs.List.{concat}
use Rattle.cert_model.specs.Fields.{Certificate, RevocationList}
use Rattle.cert_model.specs.Octets.{explicit_octets, number_octets, algorithm_octets, name_octets, validity_octets, time_octets, key_octets, optional_octets, implicit_bits_octets, tagged_extensions_octets, entries_octets}

-- the parts of a TBSCertificate that are always there, in their order
abbrev pub fixed_parts : Certificate → List (List ℕ)
fixed_parts c =
    number_octets c.serial ∷ algorithm_octets c.signature ∷ name_octets c.issuer ∷ validity_octets c.not_before c.not_after ∷ name_octets c.subject ∷ key_octets c.key ∷ []

abbrev pub parts_of : Certificate → List (List ℕ)
parts_of c = if nat_lt 0 c.version then explicit_octets 0 (number_octets (c.version ∷ [])) ∷ fixed_parts c else fixed_parts c

-- what follows them
abbrev pub optional_parts : Certificate → List ℕ
optional_parts c =
    concat (optional_octets (implicit_bits_octets 1) c.issuer_id ∷ optional_octets (implicit_bits_octets 2) c.subject_id ∷ tagged_extensions_octets 3 c.extensions ∷ [])

abbrev pub tbs_content : Certificate → List ℕ
tbs_content c = concat (parts_of c) ++ optional_parts c

-- a version comes before other parts, if there is one
abbrev pub behind_version : Option ℕ → List (List ℕ) → List (List ℕ)
behind_version None parts = parts
behind_version (Some version) parts = number_octets (version ∷ []) ∷ parts

-- the parts of a TBSCertList before the issuer
abbrev pub list_front : RevocationList → List (List ℕ)
list_front l = behind_version l.version (algorithm_octets l.signature ∷ [])

-- the issuer's place
abbrev pub issuer_place : Option ℕ → ℕ
issuer_place None = 1
issuer_place (Some version) = 2

-- what follows the issuer
abbrev pub list_back : RevocationList → List ℕ
list_back l =
    concat (time_octets l.this_update ∷ optional_octets time_octets l.next_update ∷ entries_octets l.entries ∷ tagged_extensions_octets 0 l.extensions ∷ [])

abbrev pub tbs_list_content : RevocationList → List ℕ
tbs_list_content l = concat (list_front l) ++ (name_octets l.issuer ++ list_back l)
