-- What a reader of certificates returns, and how a call's result gives it.
use Rattle.std.specs.Prelude.{◌≡◌, ◌≢◌, ℕ, List, Option, Some, None, Result, Ok, Err}
use Rattle.asn1_core.specs.declared.error.Error.TheVariants as der
use Rattle.asn1_core.specs.declared.outcome.Err.{Err as Refusal}
use Rattle.asn1_core.specs.declared.outcome.Err.TheVariants as refusals
use Rattle.x509_core.specs.declared.error.X509Error.{X509Error}
use Rattle.x509_core.specs.Parts.{Left}
use Rattle.x509_core.specs.declared.error.X509Error.TheVariants as errors

-- Why a reader refuses: by the error that is promised for a part, or by one that isn't promised.
pub data Why : Type 0 where
  named : X509Error → Why
  unnamed : Why

abbrev pub Answer : Type 0 → Type 0
Answer A = Result A Why

infixl 10 ◌>>=◌
abbrev pub ◌>>=◌ : {A B : Type 0} → Answer A → (A → Answer B) → Answer B
(Ok x) >>= f = f x
(Err e) >>= f = Err e

-- a part without an error of its own
abbrev pub plain : {A : Type 0} → Option A → Answer A
plain (Some x) = Ok x
plain None = Err unnamed

-- a part that is refused by this error
abbrev pub naming : {A : Type 0} → X509Error → Answer A → Answer A
naming e (Ok x) = Ok x
naming e (Err y) = Err (named e)

-- an error, and the reading's refusal; an error of an element is never `OutOfMemory`
abbrev pub FailsWith : {Y : Type 0} → X509Error → Answer Y → Type 0
FailsWith errors.OutOfMemory read = ⊥
FailsWith (errors.Der e) read = (e ≢ der.OutOfMemory) × (read ≡ Err unnamed)
FailsWith (errors.NomError k) read = read ≡ Err unnamed
FailsWith e read = read ≡ Err (named e)

-- a refusal, and the reading's; a failure is lack of memory, and says nothing of the octets
abbrev pub Fails : {Y : Type 0} → Refusal X509Error → Answer Y → Type 0
Fails (refusals.Incomplete n) read = read ≡ Err unnamed
Fails (refusals.Error e) read = FailsWith e read
Fails (refusals.Failure e) read = e ≡ errors.OutOfMemory

-- a call's result, seen by a view, is what the reading gives, unless memory ran out
abbrev pub Gives : {X Y : Type 0} → (X → Y) → Result X (Refusal X509Error) → Answer Y → Type 0
Gives view (Ok x) read = read ≡ Ok (view x)
Gives view (Err e) read = Fails e read

-- an error of a part, named as such
abbrev pub IsName : X509Error → Type 0
IsName errors.OutOfMemory = ⊥
IsName (errors.Der e) = ⊥
IsName (errors.NomError k) = ⊥
IsName e = Unit {0}

-- a result, with this error in the place of every refusal but `OutOfMemory`
abbrev pub Named : {X : Type 0} → X509Error → Result X (Refusal X509Error) → Result X (Refusal X509Error) → Type 0
Named name (Ok x) result = result ≡ Ok x
Named name (Err (refusals.Failure e)) result = result ≡ Err (refusals.Failure e)
Named name (Err (refusals.Incomplete n)) result = result ≡ Err (refusals.Error name)
Named name (Err (refusals.Error e)) result = result ≡ Err (refusals.Error name)

-- as many values as begin octets, and the octets after them, unless memory ran out: nothing else is refused
abbrev pub ManyGive : {X Y : Type 0} → (X → List Y) → Result X (Refusal X509Error) → List Y × List ℕ → List ℕ → Type 0
ManyGive view (Ok x) read after = read ≡ (view x, after)
ManyGive view (Err (refusals.Failure e)) read after = e ≡ errors.OutOfMemory
ManyGive view (Err (refusals.Incomplete n)) read after = ⊥
ManyGive view (Err (refusals.Error e)) read after = ⊥

abbrev pub renamed : Refusal X509Error → X509Error → Refusal X509Error
renamed (refusals.Failure e) name = refusals.Failure e
renamed (refusals.Incomplete n) name = refusals.Error name
renamed (refusals.Error e) name = refusals.Error name

-- all of a content, unless memory ran out
abbrev pub Cuts : List ℕ → Result Left (Refusal X509Error) → Type 0
Cuts content (Ok p) = p.octets ≡ content
Cuts content (Err e) = e ≡ refusals.Failure errors.OutOfMemory

-- memory ran out
abbrev pub OrMemory : Refusal X509Error → Type 0
OrMemory (refusals.Failure e) = e ≡ errors.OutOfMemory
OrMemory (refusals.Incomplete n) = ⊥
OrMemory (refusals.Error e) = ⊥

-- an answer that is so, unless memory ran out
abbrev pub ElseMemory : {X : Type 0} → Result X (Refusal X509Error) → (X → Type 0) → Type 0
ElseMemory (Ok x) P = P x
ElseMemory (Err e) P = OrMemory e
