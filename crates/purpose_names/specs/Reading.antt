-- A purpose as it is written. This page is to be believed.
use Rattle.std.specs.Prelude.{◌≡◌, ◌⊎◌, ℕ, ◌<◌, ◌≤◌, List, length, codes}
use Rattle.asn1_oid.specs.Identifier.{Spells}
use Rattle.asn1_oid.specs.Text.{dotted}
use Rattle.purpose_names.specs.declared.naming.NamedPurpose.{NamedPurpose}
use Rattle.purpose_names.specs.declared.refusal.PurposeRefusal.{PurposeRefusal}
use Rattle.purpose_names.specs.declared.refusal.PurposeRefusal.TheVariants.{Any, Unknown, Long, OutOfMemory}
use Rattle.purpose_names.specs.Names.{identifier_of, IsWord, IsWordOf}

-- the name of the purpose of any, which a certificate may have, and which is no purpose of its own
abbrev pub IsAny : List ℕ → Type 0
IsAny text = IsWord text (codes "anyExtendedKeyUsage")

-- the numbers of an object identifier, in decimal with points
abbrev pub IsNumber : List ℕ → List ℕ → Type 0
IsNumber text identifier = (components : List ℕ) × (text ≡ dotted components) × Spells components identifier

-- no purpose has this text as its name
abbrev pub IsNoName : List ℕ → Type 0
IsNoName text = (p : NamedPurpose) → ¬ IsWordOf text p

-- A text asks for the purpose of this identifier: by a name, or by its numbers, in at most 128
-- octets.
abbrev pub WritesPurpose : List ℕ → List ℕ → Type 0
WritesPurpose text identifier =
    ((p : NamedPurpose) × IsWordOf text p × (identifier ≡ identifier_of p)) ⊎ (IsNoName text × IsNumber text identifier × (length identifier ≤ 128))

-- or it asks for none
abbrev pub RefusesPurpose : List ℕ → PurposeRefusal → Type 0
RefusesPurpose text Any = IsAny text
RefusesPurpose text Unknown = IsNoName text
RefusesPurpose text Long = IsNoName text × ((identifier : List ℕ) × IsNumber text identifier × (128 < length identifier))
RefusesPurpose text OutOfMemory = Unit {0}

abbrev pub reason_of : PurposeRefusal → List ℕ
reason_of Any = codes "anyExtendedKeyUsage is no purpose of its own"
reason_of Unknown = codes "it is neither a known name nor an object identifier"
reason_of Long = codes "its identifier has more than 128 octets"
reason_of OutOfMemory = codes "out of memory"
