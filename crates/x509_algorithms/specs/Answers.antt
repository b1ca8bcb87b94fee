-- What calls answer that want memory, or have one error.
use Rattle.std.specs.Prelude.{◌≡◌, ◌≢◌, ◌⊎◌, ◌<◌, ℕ, List, Result, Ok, Err, Some}
use Rattle.asn1_core.specs.Elements.{Element}
use Rattle.asn1_core.specs.declared.error.Error.TheVariants as der
use Rattle.asn1_core.specs.declared.outcome.Err.{Err as Refusal}
use Rattle.asn1_core.specs.declared.outcome.Err.TheVariants as refusals
use Rattle.x509_core.specs.Answers.{Answer, FailsWith}
use Rattle.x509_core.specs.declared.error.X509Error.{X509Error}
use Rattle.x509_core.specs.declared.error.X509Error.TheVariants as errors
use Rattle.x509_names.specs.Fields.{Algorithm}
use Rattle.x509_algorithms.specs.Identifiers.{rsassa_pss_id}
use Rattle.x509_algorithms.specs.Reading.{tagged_content}

-- an answer that is so, unless memory ran out
abbrev pub OkElseMemory : {X : Type 0} → Result X X509Error → (X → Type 0) → Type 0
OkElseMemory (Ok x) P = P x
OkElseMemory (Err e) P = e ≡ errors.OutOfMemory

-- this error, or lack of memory
abbrev pub IsOrMemory : X509Error → X509Error → Type 0
IsOrMemory name e = (e ≡ name) ⊎ (e ≡ errors.OutOfMemory)

-- why an algorithm isn't one of signatures; memory is wanted for parameters of RSASSA-PSS alone
abbrev pub IsUnsigned : Algorithm → X509Error → Type 0
IsUnsigned a e = (e ≡ errors.InvalidSignatureValue) ⊎ ((e ≡ errors.OutOfMemory) × (a.identifier ≡ rsassa_pss_id) × (x : Element) × (a.parameters ≡ Some x))

-- a call's result is what the reading gives, the error that of its refusal, unless memory ran out
abbrev pub Returns : {X Y : Type 0} → (X → Y) → Result X X509Error → Answer Y → Type 0
Returns view (Ok x) read = read ≡ Ok (view x)
Returns view (Err e) read = (e ≡ errors.OutOfMemory) ⊎ FailsWith e read

-- an element of another tag number than 16 is refused by its tag numbers
abbrev pub IsTagError : Element → X509Error → Type 0
IsTagError e x = e.tag ≢ 16 → x ≡ errors.Der (der.UnexpectedTag (Some (record { 0 = 16 })) (record { 0 = e.tag }))

-- ---- where memory is wanted

-- a whole element under [n] of the context class is next
abbrev pub HasPart : ℕ → List ℕ → Type 0
HasPart n octets = (content : List ℕ) × (rest : List ℕ) × (tagged_content n octets ≡ Ok (Some content, rest))

-- one of the tag numbers below n
abbrev pub HasPartBelow : ℕ → List ℕ → Type 0
HasPartBelow n octets = (m : ℕ) × (m < n) × HasPart m octets

-- out of memory only if this is so
abbrev pub WantsFor : Type 0 → Refusal X509Error → Type 0
WantsFor need (refusals.Incomplete n) = Unit {0}
WantsFor need (refusals.Error e) = Unit {0}
WantsFor need (refusals.Failure e) = need

-- memory is allocated for algorithms alone, which are under the tag numbers below n: the first part
-- is one
abbrev pub WantsBelow : ℕ → Element → X509Error → Type 0
WantsBelow n e x = x ≡ errors.OutOfMemory → (e.tag ≡ 16) × HasPartBelow n e.content
