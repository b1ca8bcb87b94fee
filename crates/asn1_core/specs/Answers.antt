-- What a reader returns, as a value and the octets after it, and how a call's result gives that.
use Rattle.std.specs.Prelude.{◌≡◌, ◌≢◌, ℕ, List, Result, Ok, Err}
use Rattle.asn1_core.specs.declared.error.Error.{Error}
use Rattle.asn1_core.specs.declared.error.Error.TheVariants as errors
use Rattle.asn1_core.specs.declared.error.Needed.TheVariants as needed
use Rattle.asn1_core.specs.declared.outcome.Err.{Err as Refusal}
use Rattle.asn1_core.specs.declared.outcome.Err.TheVariants as refusals

-- a value with the octets after it, or an error
abbrev pub Answer : Type 0 → Type 0
Answer A = Result (A × List ℕ) (Refusal Error)

-- the octets are rejected
abbrev pub refuse : {A : Type 0} → Error → Answer A
refuse e = Err (refusals.Error e)

-- so many octets are missing
abbrev pub lack : {A : Type 0} → ℕ → Answer A
lack n = Err (refusals.Incomplete (needed.Size n))

-- the second reading goes on after the first
abbrev pub then_read : {A B : Type 0} → Answer A → (A → List ℕ → Answer B) → Answer B
then_read (Ok x) f = f x.0 x.1
then_read (Err e) f = Err e

-- a call's result, seen by a view, is what the reading gives
abbrev pub Gives : {X Y : Type 0} → (X → Y) → Result X (Refusal Error) → Result Y (Refusal Error) → Type 0
Gives view (Ok x) read = read ≡ Ok (view x)
Gives view (Err e) read = read ≡ Err e

-- an error of a call that takes no memory: never a failure, and never out of memory
abbrev pub TakesNoMemory : Refusal Error → Type 0
TakesNoMemory (refusals.Incomplete n) = Unit {0}
TakesNoMemory (refusals.Error e) = e ≢ errors.OutOfMemory
TakesNoMemory (refusals.Failure e) = ⊥
