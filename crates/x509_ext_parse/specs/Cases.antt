-- Which case of `ParsedExtension` it is, and what becomes of a reader's answer.
use Rattle.std.specs.Prelude.{◌≡◌, ℕ, List, Option, Some, None, Result, Ok, Err, IfSome}
use Rattle.std.specs.Borrow.{Bor}
use Rattle.asn1_core.specs.Answers.{TakesNoMemory}
use Rattle.asn1_core.specs.declared.error.Error.{Error}
use Rattle.asn1_core.specs.declared.error.Error.TheVariants as der
use Rattle.asn1_core.specs.declared.memory.OutOfMemory.{OutOfMemory}
use Rattle.asn1_core.specs.declared.outcome.Err.{Err as Refusal}
use Rattle.asn1_core.specs.declared.outcome.Err.TheVariants as refusals
use Rattle.x509_core.specs.Fronts.{TakesNoMemory as IsNoFailure}
use Rattle.x509_core.specs.declared.error.X509Error.{X509Error}
use Rattle.x509_core.specs.declared.error.X509Error.TheVariants as errors
use Rattle.x509_ext_parse.specs.Faults.{FaultOf, IsFaultOf}
use Rattle.x509_ext_parse.specs.declared.kind.Kind.{Kind}
use Rattle.x509_ext_parse.specs.declared.parsed.ParsedExtension.{ParsedExtension}
use Rattle.x509_ext_parse.specs.declared.parsed.ParsedExtension.TheVariants as cases

abbrev pub IsUnsupported : ParsedExtension → Type 0
IsUnsupported (cases.UnsupportedExtension oid) = Unit {0}
IsUnsupported p = ⊥

abbrev pub error_of : ParsedExtension → Option (Refusal Error)
error_of (cases.ParseError e) = Some e
error_of p = None

-- an error that it holds isn't `OutOfMemory`
abbrev pub HoldsNoMemory : ParsedExtension → Type 0
HoldsNoMemory p = IfSome (error_of p) TakesNoMemory

-- if a value of a kind is none of its type, the error that is held is why
abbrev pub HoldsFaultOf : Kind → List ℕ → ParsedExtension → Type 0
HoldsFaultOf kind value p = IfSome (error_of p) (FaultOf kind value)

-- if the value under this identifier is none of its type, the error that is held is why
abbrev pub HoldsFault : List ℕ → List ℕ → ParsedExtension → Type 0
HoldsFault identifier value p = IfSome (error_of p) (IsFaultOf identifier value)

-- a reader's error as one of an element; any other is `BerValueError`
abbrev pub element_error : X509Error → Error
element_error (errors.Der der.OutOfMemory) = der.BerValueError
element_error (errors.Der e) = e
element_error e = der.BerValueError

-- a reader's refusal, and the error that is held
abbrev pub IsHeld : Refusal X509Error → Refusal Error → Type 0
IsHeld (refusals.Incomplete n) e = e ≡ refusals.Incomplete n
IsHeld (refusals.Error x) e = e ≡ refusals.Error (element_error x)
IsHeld (refusals.Failure x) e = ⊥

-- a reader's result, the octets after a value dropped, and lack of memory by itself
abbrev pub IsSettled : {X : Type 0} → Result (Bor (List ℕ) × X) (Refusal X509Error) → Result (Result X (Refusal Error)) OutOfMemory → Type 0
IsSettled (Ok r) (Ok (Ok value)) = r.1 ≡ value
IsSettled (Ok r) (Ok (Err e)) = ⊥
IsSettled (Err refusal) (Ok (Ok value)) = ⊥
IsSettled (Err refusal) (Ok (Err e)) = IsNoFailure refusal × TakesNoMemory e × IsHeld refusal e
IsSettled answer (Err e) = Unit {0}
