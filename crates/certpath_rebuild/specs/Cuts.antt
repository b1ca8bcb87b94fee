-- The first parts of certificates and lists in pieces.
use Rattle.std.specs.Prelude.{ℕ, List, [], ◌∷◌, ◌++◌}
use Rattle.std.specs.List.{concat}
use Rattle.cert_model.specs.Fields.{Certificate, RevocationList}
use Rattle.cert_model.specs.Octets.{optional_octets, entries_octets, time_octets, implicit_bits_octets, tagged_extensions_octets, validity_octets, name_octets, key_octets}

-- the fields after the subject's key: unique identifiers and extensions
unfoldable pub additions_octets : Certificate → List ℕ
additions_octets c =
    concat (optional_octets (implicit_bits_octets 1) c.issuer_id ∷ optional_octets (implicit_bits_octets 2) c.subject_id ∷ tagged_extensions_octets 3 c.extensions ∷ [])

-- the fields after the issuer: validity, subject, key, and those
unfoldable pub holder_octets : Certificate → List ℕ
holder_octets c = validity_octets c.not_before c.not_after ++ (name_octets c.subject ++ (key_octets c.key ++ additions_octets c))

-- the fields after a list's issuer: its updates, entries and extensions
unfoldable pub contents_octets : RevocationList → List ℕ
contents_octets l = concat (time_octets l.this_update ∷ optional_octets time_octets l.next_update ∷ entries_octets l.entries ∷ tagged_extensions_octets 0 l.extensions ∷ [])
