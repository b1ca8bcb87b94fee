-- Values of extKeyUsage and subjectAltName, by their contents.
use Rattle.std.proofs.Common.{◌≡◌, ◌≢◌, ◌∙◌, ap, sym, ℕ, List, []}
use Rattle.std.specs.List.{flat_map}
use Rattle.cert_model.specs.Fields.{Identifier}
use Rattle.cert_model.specs.Octets.{sequence_octets, identifier_octets}
use Rattle.cert_serving.specs.cert_purpose.specs.Purposes.{ArePurposes}
use Rattle.cert_serving.specs.cert_purpose.proofs.Written as purposes
use Rattle.cert_serving.specs.GeneralNames.{GeneralName, AreGeneralNames, general_name_octets}
use Rattle.cert_serving.proofs.Written as names
use Rattle.cert_reasons.specs.Values.{ArePurposesIn, AreNamesIn}
use Rattle.cert_reasons.proofs.Reading.{IsLong, ended}

pub purposes_long : IsLong identifier_octets
purposes_long = purposes.written_long

pub names_long : IsLong general_name_octets
names_long = names.written_long

-- a value has one content
abbrev pub IsOnly : List ℕ → List ℕ → Type 0
IsOnly value content = (other : List ℕ) → value ≡ sequence_octets other → content ≡ other

pub purposes_value : (value content : List ℕ) (ps : List Identifier) → content ≢ [] → value ≡ sequence_octets content → ArePurposesIn content ps → ArePurposes value ps
purposes_value value content ps some e a = record { some = λ z. some (a.1 ∙ ap (flat_map identifier_octets) z); each = a.0; spelled = e ∙ ap sequence_octets a.1 }

pub value_purposes : (value content : List ℕ) (ps : List Identifier) → IsOnly value content → ArePurposes value ps → ArePurposesIn content ps
value_purposes value content ps only a = (a.each, only (flat_map identifier_octets ps) a.spelled)

pub no_purposes : (value content : List ℕ) (ps : List Identifier) → content ≡ [] → IsOnly value content → ArePurposes value ps → ⊥
no_purposes value content ps none only a = a.some (ended identifier_octets ps purposes_long (sym none ∙ only (flat_map identifier_octets ps) a.spelled))

pub names_value : (value content : List ℕ) (gs : List GeneralName) → content ≢ [] → value ≡ sequence_octets content → AreNamesIn content gs → AreGeneralNames value gs
names_value value content gs some e a = record { some = λ z. some (a.1 ∙ ap (flat_map general_name_octets) z); each = a.0; spelled = e ∙ ap sequence_octets a.1 }

pub value_names : (value content : List ℕ) (gs : List GeneralName) → IsOnly value content → AreGeneralNames value gs → AreNamesIn content gs
value_names value content gs only a = (a.each, only (flat_map general_name_octets gs) a.spelled)

pub no_names : (value content : List ℕ) (gs : List GeneralName) → content ≡ [] → IsOnly value content → AreGeneralNames value gs → ⊥
no_names value content gs none only a = a.some (ended general_name_octets gs names_long (sym none ∙ only (flat_map general_name_octets gs) a.spelled))
