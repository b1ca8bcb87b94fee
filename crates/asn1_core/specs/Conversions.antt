-- What conversions between errors give: out of memory remains that, and is a failure of a reader.
use Rattle.std.specs.Prelude.{◌≡◌}
use Rattle.asn1_core.specs.declared.error.Error.{Error}
use Rattle.asn1_core.specs.declared.error.Error.TheVariants as errors
use Rattle.asn1_core.specs.declared.outcome.Err.{Err as Refusal}
use Rattle.asn1_core.specs.declared.outcome.Err.TheVariants as refusals
use Rattle.asn1_core.specs.declared.serialize.SerializeError.{SerializeError}
use Rattle.asn1_core.specs.declared.serialize.SerializeError.TheVariants as writes

-- a failure that holds what the relation gives for out of memory
abbrev pub FailsForMemory : {E : Type 0} → (Error → E → Type 0) → Refusal E → Type 0
FailsForMemory gives (refusals.Incomplete n) = ⊥
FailsForMemory gives (refusals.Error e) = ⊥
FailsForMemory gives (refusals.Failure e) = gives errors.OutOfMemory e

-- a reader's error that holds what the relation gives for the error
abbrev pub RefusesWith : {E F : Type 0} → (F → E → Type 0) → F → Refusal E → Type 0
RefusesWith gives given (refusals.Incomplete n) = ⊥
RefusesWith gives given (refusals.Error e) = gives given e
RefusesWith gives given (refusals.Failure e) = ⊥

-- an error as a reader's: out of memory is a failure
abbrev pub RefusesFor : {E : Type 0} → (Error → E → Type 0) → Error → Refusal E → Type 0
RefusesFor gives errors.OutOfMemory r = FailsForMemory gives r
RefusesFor gives e r = RefusesWith gives e r

-- a reader's error with the error in it converted
abbrev pub Converts : {E F : Type 0} → (F → E → Type 0) → Refusal F → Refusal E → Type 0
Converts gives (refusals.Incomplete n) r = r ≡ refusals.Incomplete n
Converts gives (refusals.Error e) r = RefusesWith gives e r
Converts gives (refusals.Failure e) (refusals.Incomplete n) = ⊥
Converts gives (refusals.Failure e) (refusals.Error f) = ⊥
Converts gives (refusals.Failure e) (refusals.Failure f) = gives e f

-- the error that a reader's error holds; missing octets become an error
abbrev pub error_of : Refusal Error → Error
error_of (refusals.Incomplete n) = errors.Incomplete n
error_of (refusals.Error e) = e
error_of (refusals.Failure e) = e

-- a reader's error as a writer's
abbrev pub serialize_of : Error → SerializeError
serialize_of errors.OutOfMemory = writes.OutOfMemory
serialize_of e = writes.ASN1Error e

-- octets are missing
abbrev pub IsIncomplete : {E : Type 0} → Refusal E → Type 0
IsIncomplete (refusals.Incomplete n) = Unit {0}
IsIncomplete (refusals.Error e) = ⊥
IsIncomplete (refusals.Failure e) = ⊥

-- a part's error as that of the whole: octets that are missing in a part can't come after the whole
abbrev pub TellsWhole : {E : Type 0} → (Error → E → Type 0) → Refusal E → Refusal E → Type 0
TellsWhole gives (refusals.Incomplete n) r = RefusesWith gives (errors.Incomplete n) r
TellsWhole gives (refusals.Error e) r = r ≡ refusals.Error e
TellsWhole gives (refusals.Failure e) r = r ≡ refusals.Failure e
