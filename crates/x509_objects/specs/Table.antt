-- What is known of object identifiers, and their abbreviations.
use Rattle.std.specs.Prelude.{◌≡◌, ℕ, List, [], ◌∷◌, ◌++◌, Option, Some, None, if◌then◌else◌, bytes_eq, codes}
use Rattle.x509_objects.specs.Identifiers as ids

-- a short name and a description
pub record Entry : Type 0 where
  pub short_name : List ℕ
  pub description : List ℕ

-- something that is known of an identifier
pub record Row (A : Type 0) : Type 0 where
  pub identifier : List ℕ
  pub told : A

-- a name that describes itself
abbrev pub plain : List ℕ → List ℕ → Row Entry
plain identifier name = record { identifier = identifier; told = record { short_name = name; description = name } }

-- attribute types of persons and places
abbrev pub places : List (Row Entry)
places =
    plain ids.state_or_province_id (codes "stateOrProvinceName")
    ∷ plain ids.locality_id (codes "localityName")
    ∷ plain ids.country_id (codes "countryName")
    ∷ plain ids.common_name_id (codes "commonName")
    ∷ []

-- attribute types of organizations, domains and mail
abbrev pub owners : List (Row Entry)
owners =
    plain ids.email_id (codes "emailAddress")
    ∷ plain ids.domain_component_id (codes "domainComponent")
    ∷ plain ids.organizational_unit_id (codes "organizationalUnit")
    ∷ plain ids.organization_id (codes "organizationName")
    ∷ []

-- the algorithms of keys, and a mask generation function
abbrev pub algorithms : List (Row Entry)
algorithms =
    record { identifier = ids.mgf1_id; told = record { short_name = codes "id-mgf1"; description = codes "Mask Generator Function 1 (MGF1)" } }
    ∷ plain ids.dsa_id (codes "dsa")
    ∷ plain ids.ec_id (codes "ecPublicKey")
    ∷ plain ids.rsa_id (codes "rsaEncryption")
    ∷ []

-- the registry that is handed out
abbrev pub known : List (Row Entry)
known = algorithms ++ owners ++ places

abbrev pub short : List ℕ → List ℕ → Row (List ℕ)
short identifier text = record { identifier = identifier; told = text }

-- abbreviations of attribute types (RFC 4514, 3; the last is common use)
abbrev pub abbreviations : List (Row (List ℕ))
abbreviations =
    short ids.common_name_id (codes "CN")
    ∷ short ids.country_id (codes "C")
    ∷ short ids.locality_id (codes "L")
    ∷ short ids.state_or_province_id (codes "ST")
    ∷ short ids.organization_id (codes "O")
    ∷ short ids.organizational_unit_id (codes "OU")
    ∷ short ids.domain_component_id (codes "DC")
    ∷ short ids.email_id (codes "Email")
    ∷ []

-- what the first row of an identifier gives, or else something other
abbrev pub told_else : {A : Type 0} → List (Row A) → List ℕ → Option A → Option A
told_else [] id other = other
told_else (row ∷ rows) id other = if bytes_eq id row.identifier then Some row.told else told_else rows id other

abbrev pub told_of : {A : Type 0} → List (Row A) → List ℕ → Option A
told_of rows id = told_else rows id None

-- what the registry that is handed out gives, and the abbreviations
abbrev pub known_entry : List ℕ → Option Entry
known_entry id = told_of known id

abbrev pub abbreviation_of : List ℕ → Option (List ℕ)
abbreviation_of id = told_of abbreviations id

-- a row of the table gives this of this identifier
pub data IsRow {A : Type 0} (id : List ℕ) (told : A) : List (Row A) → Type 0 where
  here : (row : Row A) (rows : List (Row A)) → row.identifier ≡ id → row.told ≡ told → IsRow id told (row ∷ rows)
  behind : (row : Row A) (rows : List (Row A)) → IsRow id told rows → IsRow id told (row ∷ rows)
