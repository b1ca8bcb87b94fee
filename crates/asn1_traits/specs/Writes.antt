-- What a writer appends to a device, what it returns, and why it stops.
use Rattle.std.specs.Prelude.{◌≡◌, ◌+◌, ◌^◌, ◌<◌, ◌≤◌, ℕ, Bool, false, Option, Some, None, List, [], ◌++◌, length, Result, Ok, Err, IfOk, IfErr}
use Rattle.std.specs.Io.KnownBytes.{Appends}
use Rattle.asn1_device.specs.Counts.{AppendsFront}
use Rattle.asn1_core.specs.Strict.{strict_header}
use Rattle.asn1_core.specs.Elements.{Element, head_of_element, element_octets}
use Rattle.asn1_core.specs.Views.{class_number}
use Rattle.asn1_core.specs.declared.serialize.SerializeError.{SerializeError}
use Rattle.asn1_core.specs.declared.serialize.SerializeError.TheVariants as writes
use Rattle.asn1_traits.specs.declared.write.DerKind.{DerKind}

-- an absent value writes nothing, any other one strict element (X.690, 10.1)
abbrev pub written : Option Element → List ℕ
written None = []
written (Some e) = element_octets e

abbrev pub header_of : Option Element → List ℕ
header_of None = []
header_of (Some e) = strict_header (head_of_element e)

abbrev pub content_of : Option Element → List ℕ
content_of None = []
content_of (Some e) = e.content

abbrev pub constructed_of : Option Element → Bool
constructed_of None = false
constructed_of (Some e) = e.constructed

-- a primitive element of the universal class
abbrev pub primitive : ℕ → List ℕ → Element
primitive tag content = record { class = 0; constructed = false; tag = tag; content = content }

-- what identifier octets say
pub record Kind : Type 0 where
  pub class : ℕ
  pub constructed : Bool
  pub tag : ℕ

abbrev pub kind_of : DerKind → Kind
kind_of k = record { class = class_number k.class; constructed = k.constructed; tag = k.tag.0 }

abbrev pub kind_of_element : Element → Kind
kind_of_element e = record { class = e.class; constructed = e.constructed; tag = e.tag }

-- more octets than `usize` counts
abbrev pub IsLong : List ℕ → Type 0
IsLong octets = 2 ^ 64 ≤ length octets

-- their number, or that `usize` can't count them
abbrev pub Measures : List ℕ → Result ℕ SerializeError → Type 0
Measures octets (Ok n) = n ≡ length octets
Measures octets (Err e) = (e ≡ writes.InvalidLength) × IsLong octets

-- why a writer stops, by the device's failures before and after: `long` says when `usize` can't
-- count what is to be written, `grows` when writing may allocate, and `wrong` when the value has no
-- encoding
abbrev pub Stops : ℕ → ℕ → Type 0 → Type 0 → Type 0 → SerializeError → Type 0
Stops before after long grows wrong (writes.ASN1Error e) = wrong × (after ≡ before)
Stops before after long grows wrong (writes.InvalidClass class) = wrong × (after ≡ before)
Stops before after long grows wrong writes.InvalidLength = long × (after ≡ before)
Stops before after long grows wrong writes.IOError = after ≡ before + 1
Stops before after long grows wrong writes.OutOfMemory = grows × (after ≡ before)

-- the octets are appended to the device's contents and counted, and no call of it failed; or the
-- writer stopped after some octets from the front
pub record Writes (old new : Option (List ℕ)) (before after : ℕ) (long grows wrong : Type 0) (octets : List ℕ) (r : Result ℕ SerializeError) : Type 0 where
  pub ok : IfOk r (λ n. Appends old new octets × (n ≡ length octets) × (after ≡ before))
  pub err : IfErr r (λ e. AppendsFront old new octets × Stops before after long grows wrong e)

-- that the value has no encoding
abbrev pub IsFormRefusal : SerializeError → Type 0
IsFormRefusal (writes.ASN1Error e) = Unit {0}
IsFormRefusal (writes.InvalidClass class) = Unit {0}
IsFormRefusal writes.InvalidLength = ⊥
IsFormRefusal writes.IOError = ⊥
IsFormRefusal writes.OutOfMemory = ⊥

-- why no octets are made of a value
abbrev pub NotEncoded : Type 0 → List ℕ → SerializeError → Type 0
NotEncoded wrong octets (writes.ASN1Error e) = wrong
NotEncoded wrong octets (writes.InvalidClass class) = wrong
NotEncoded wrong octets writes.InvalidLength = IsLong octets
NotEncoded wrong octets writes.IOError = ⊥
NotEncoded wrong octets writes.OutOfMemory = Unit {0}

-- one element, its class and tag number in range
abbrev pub IsOneElement : Option Element → Type 0
IsOneElement None = ⊥
IsOneElement (Some e) = (e.class < 4) × (e.tag < 2 ^ 32)

-- an element of this tag number
abbrev pub HasTag : ℕ → Option Element → Type 0
HasTag tag None = ⊥
HasTag tag (Some e) = e.tag ≡ tag
