-- Results of parts that may be absent, and results without an error.
use Rattle.std.specs.Prelude.{◌≡◌, ℕ, List, Option, Some, None, Result, Ok, Err}
use Rattle.std.specs.Borrow.{Bor}
use Rattle.asn1_core.specs.declared.memory.OutOfMemory.{OutOfMemory}
use Rattle.asn1_core.specs.declared.error.Error.TheVariants as der
use Rattle.asn1_core.specs.declared.outcome.Err.{Err as Refusal}
use Rattle.asn1_core.specs.declared.outcome.Err.TheVariants as refusals
use Rattle.x509_core.specs.Answers.{Answer, Why}
use Rattle.x509_core.specs.declared.error.X509Error.{X509Error}
use Rattle.x509_core.specs.declared.error.X509Error.TheVariants as errors

-- a part's result, made that of a part that may be absent: every refusal but `OutOfMemory` is none,
-- these octets being left
abbrev pub IsOptional : {X : Type 0} → Bor (List ℕ) → Result (Bor (List ℕ) × X) (Refusal X509Error) → Result (Bor (List ℕ) × Option X) (Refusal X509Error) → Type 0
IsOptional i (Ok r) result = result ≡ Ok (r.0, Some r.1)
IsOptional i (Err (refusals.Failure e)) result = result ≡ Err (refusals.Failure e)
IsOptional i (Err (refusals.Incomplete n)) result = result ≡ Ok (i, None)
IsOptional i (Err (refusals.Error e)) result = result ≡ Ok (i, None)

-- the reading's value, or none if it refuses, unless memory ran out
abbrev pub Takes : {X Y : Type 0} → (X → Y) → Result (Option X) OutOfMemory → Answer Y → Type 0
Takes view (Ok (Some x)) read = read ≡ Ok (view x)
Takes view (Ok None) read = (why : Why) × (read ≡ Err why)
Takes view (Err e) read = Unit {0}

-- so is what was taken
abbrev pub IfTaken : {X : Type 0} → Result (Option X) OutOfMemory → (X → Type 0) → Type 0
IfTaken (Ok (Some x)) P = P x
IfTaken (Ok None) P = Unit {0}
IfTaken (Err e) P = Unit {0}

-- a result in which a refusal is none
abbrev pub IsTaken : {X : Type 0} → Result X (Refusal X509Error) → Result (Option X) OutOfMemory → Type 0
IsTaken (Ok x) result = result ≡ Ok (Some x)
IsTaken (Err (refusals.Failure e)) result = (given : OutOfMemory) × (result ≡ Err given)
IsTaken (Err (refusals.Incomplete n)) result = result ≡ Ok None
IsTaken (Err (refusals.Error e)) result = result ≡ Ok None

-- a result in which none is an error
abbrev pub IsTold : {X : Type 0} → Result (Option X) OutOfMemory → Result X (Refusal X509Error) → Type 0
IsTold (Ok (Some x)) result = result ≡ Ok x
IsTold (Ok None) result = result ≡ Err (refusals.Error (errors.Der der.InvalidLength))
IsTold (Err e) result = result ≡ Err (refusals.Failure errors.OutOfMemory)
