-- What a registry holds of identifiers.
use Rattle.std.specs.Prelude.{ℕ, List, [], ◌∷◌, Option, Some, None, option_map, if◌then◌else◌, bytes_eq}
use Rattle.x509_objects.specs.Table.{Entry, abbreviation_of}
use Rattle.x509_objects.specs.declared.registry.OidEntry.{OidEntry}
use Rattle.x509_objects.specs.declared.registry.OidRegistry.{OidRegistry}

abbrev pub entry_view : OidEntry → Entry
entry_view e = record { short_name = e.sn.now; description = e.description.now }

-- the value of the first pair whose key has these octets
abbrev pub entry_in : {K V : Type 0} → (K → List ℕ) → (V → Entry) → List (K × V) → List ℕ → Option Entry
entry_in key see [] id = None
entry_in key see (e ∷ es) id = if bytes_eq id (key e.0) then Some (see e.1) else entry_in key see es id

-- what the registry holds of an identifier of these content octets
abbrev pub entry_of : OidRegistry → List ℕ → Option Entry
entry_of r id = entry_in (λ k. k.items) entry_view r.entries.entries id

abbrev pub name_or : Option (List ℕ) → Option Entry → Option (List ℕ)
name_or (Some text) entry = Some text
name_or None entry = option_map (λ e. e.short_name) entry

-- the abbreviation, or else the registry's short name
abbrev pub abbreviated : OidRegistry → List ℕ → Option (List ℕ)
abbreviated r id = name_or (abbreviation_of id) (entry_of r id)
