-- The registry of the known identifiers, written out by hand: it tries the laws' definitions, not the code.
use Rattle.std.specs.Prelude.{◌<◌, ◌^◌, codes, List, [], ◌∷◌, length, ℕ}
use Rattle.std.specs.Global.{Vec, Global}
use Rattle.std.proofs.Common.{inl, lit<, refl}
use Rattle.std.proofs.Math.Nat.{le_refl}
use Rattle.std_collections.specs.Layout.BTreeMap.{btree_map}
use denote.RawPtr.{null_ptr}
use Rattle.x509_objects.specs.Identifiers as ids
use Rattle.x509_objects.specs.declared.registry.OidEntry.{OidEntry}
use Rattle.x509_objects.specs.declared.registry.OidRegistry.{OidRegistry}

module _ (alloc : Global) where
  -- the vector of these octets, with no room for more
  abbrev vec_of : (octets : List ℕ) → length octets < 2 ^ 63 → Vec ℕ
  vec_of octets small = record { ptr = null_ptr; len = length octets; cap = length octets; alloc = alloc; items = octets; ok = (refl, le_refl _); small = small }

  -- an identifier with a name, and one that describes it
  abbrev named : (identifier : List ℕ) → length identifier < 2 ^ 63 → List ℕ → List ℕ → Vec ℕ × OidEntry
  named identifier small name description =
      (vec_of identifier small, record { sn = record { ref_ptr = (0, 0); now = name }; description = record { ref_ptr = (0, 0); now = description } })

  abbrev plain : (identifier : List ℕ) → length identifier < 2 ^ 63 → List ℕ → Vec ℕ × OidEntry
  plain identifier small name = named identifier small name name

  abbrev entries : List (Vec ℕ × OidEntry)
  entries =
      named ids.mgf1_id (lit< tt) (codes "id-mgf1") (codes "Mask Generator Function 1 (MGF1)")
      ∷ plain ids.dsa_id (lit< tt) (codes "dsa")
      ∷ plain ids.ec_id (lit< tt) (codes "ecPublicKey")
      ∷ plain ids.rsa_id (lit< tt) (codes "rsaEncryption")
      ∷ plain ids.email_id (lit< tt) (codes "emailAddress")
      ∷ plain ids.domain_component_id (lit< tt) (codes "domainComponent")
      ∷ plain ids.organizational_unit_id (lit< tt) (codes "organizationalUnit")
      ∷ plain ids.organization_id (lit< tt) (codes "organizationName")
      ∷ plain ids.state_or_province_id (lit< tt) (codes "stateOrProvinceName")
      ∷ plain ids.locality_id (lit< tt) (codes "localityName")
      ∷ plain ids.country_id (lit< tt) (codes "countryName")
      ∷ plain ids.common_name_id (lit< tt) (codes "commonName")
      ∷ []

  abbrev pub known_registry : OidRegistry
  known_registry = record { entries = btree_map entries (inl tt) }
