-- Names, written out by hand: they try the definition of their text.
use Rattle.std.specs.Prelude.{ℕ, List, [], ◌∷◌, false, codes}
use Rattle.x509_names.specs.Fields.{Attribute, Name}
use Rattle.x509_objects.specs.Identifiers.{common_name_id, country_id, state_or_province_id, organization_id}

abbrev pub attribute : List ℕ → ℕ → List ℕ → Attribute
attribute identifier tag content = record { identifier = identifier; value = record { class = 0; constructed = false; tag = tag; content = content } }

-- texts of three kinds, and a set of two
abbrev pub row : Name
row = record {
  sets = (attribute country_id 19 (codes "FR") ∷ [])
      ∷ (attribute state_or_province_id 12 (codes "Some-State") ∷ [])
      ∷ (attribute organization_id 22 (codes "Internet Widgits Pty Ltd") ∷ [])
      ∷ (attribute common_name_id 12 (codes "Test1") ∷ attribute common_name_id 12 (codes "Test2") ∷ [])
      ∷ [];
  raw = [];
}

-- a BMPString
abbrev pub wide_value : Attribute
wide_value = attribute common_name_id 30 (0x00 ∷ 0x41 ∷ 0x00 ∷ 0x7A ∷ [])

abbrev pub wide : Name
wide = record { sets = (wide_value ∷ []) ∷ []; raw = [] }

-- 1.2.3, and an OCTET STRING
abbrev pub octets : Name
octets = record { sets = (attribute (0x2a ∷ 0x03 ∷ []) 4 (0x0A ∷ 0xFF ∷ []) ∷ []) ∷ []; raw = [] }

-- sets without attributes, before others and between two
abbrev pub empty_sets : Name
empty_sets = record { sets = [] ∷ (wide_value ∷ []) ∷ [] ∷ (wide_value ∷ []) ∷ []; raw = [] }

-- half a unit of a BMPString
abbrev pub fault : Name
fault = record { sets = (attribute common_name_id 30 (0x00 ∷ []) ∷ []) ∷ []; raw = [] }
