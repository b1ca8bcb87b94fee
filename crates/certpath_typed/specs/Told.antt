-- Which fields are made of what the lenient readers read of an item. These relations retrace the
-- code.
use Rattle.std.specs.Prelude.{◌≡◌, ◌⊎◌, ℕ, nat_eq, ◌||◌, Bool, false, List, [], ◌∷◌}
use Rattle.std.specs.List.{starts_with, AllZip}
use Rattle.cert_model.specs.Fields.{Algorithm, Attribute, RelativeName, Name, Bits, Key, Extension}
use Rattle.x509_names.specs.Fields.{Algorithm as ReadAlgorithm, Attribute as ReadAttribute, Name as ReadName, Bits as ReadBits, Key as ReadKey}
use Rattle.x509_links.specs.Readers.{Extension as ReadExtension}

-- octets are somewhere in others
abbrev pub stand_in : List ℕ → List ℕ → Bool
stand_in [] octets = starts_with nat_eq [] octets
stand_in (x ∷ s) octets = starts_with nat_eq (x ∷ s) octets || stand_in s octets

-- an identifier's octets, or none if they aren't in the item
unfoldable pub TellsIdentifier : List ℕ → List ℕ → List ℕ → Type 0
TellsIdentifier item octets told = (told ≡ octets) ⊎ ((stand_in item octets ≡ false) × (told ≡ []))

abbrev pub TellsAlgorithm : List ℕ → ReadAlgorithm → Algorithm → Type 0
TellsAlgorithm item a told = TellsIdentifier item a.identifier told.identifier × (told.parameters ≡ a.parameters)

abbrev pub TellsAttribute : List ℕ → ReadAttribute → Attribute → Type 0
TellsAttribute item a told = TellsIdentifier item a.identifier told.identifier × (told.value ≡ a.value)

abbrev pub TellsSet : List ℕ → List ReadAttribute → RelativeName → Type 0
TellsSet item s told = AllZip (TellsAttribute item) s told

abbrev pub TellsName : List ℕ → ReadName → Name → Type 0
TellsName item n told = AllZip (TellsSet item) n.sets told

abbrev pub told_bits : ReadBits → Bits
told_bits b = record { unused = b.unused; octets = b.octets }

abbrev pub TellsKey : List ℕ → ReadKey → Key → Type 0
TellsKey item k told = TellsAlgorithm item k.algorithm told.algorithm × (told.key ≡ told_bits k.key)

abbrev pub TellsExtension : List ℕ → ReadExtension → Extension → Type 0
TellsExtension item e told = TellsIdentifier item e.identifier told.identifier × (told.critical ≡ e.critical) × (told.value ≡ e.value)

abbrev pub TellsExtensions : List ℕ → List ReadExtension → List Extension → Type 0
TellsExtensions item es told = AllZip (TellsExtension item) es told
