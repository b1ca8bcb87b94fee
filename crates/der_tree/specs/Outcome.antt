-- What a refusal says: that no value is there, or that memory ran out, which comes as a failure alone.
use Rattle.std.specs.Prelude.{◌≡◌, ◌≢◌, ◌==◌, ◌||◌, ℕ, nat_lt, if◌then◌else◌, List, Result, Ok, Err, IfErr, IsErrAnd}
use Rattle.asn1_core.specs.Answers.{Answer, refuse, then_read}
use Rattle.asn1_core.specs.Elements.{Element}
use Rattle.asn1_core.specs.Reading.{strict_at}
use Rattle.asn1_core.specs.declared.error.Error.{Error}
use Rattle.asn1_core.specs.declared.error.Error.TheVariants as errors
use Rattle.asn1_core.specs.declared.error.Error.TheVariants.{OutOfMemory}
use Rattle.asn1_core.specs.declared.outcome.Err.{Err as Refusal}
use Rattle.asn1_core.specs.declared.outcome.Err.TheVariants as refusals
use Rattle.asn1_any.specs.Reading.{content_at}

-- `None` says that there is no such value
abbrev pub Refuses : Refusal Error → Type 0 → Type 0
Refuses (refusals.Incomplete n) None = None
Refuses (refusals.Error e) None = None × (e ≢ OutOfMemory)
Refuses (refusals.Failure e) None = e ≡ OutOfMemory

-- not that octets are missing after the input
abbrev pub IsNotCut : Refusal Error → Type 0
IsNotCut (refusals.Incomplete n) = ⊥
IsNotCut (refusals.Error e) = Unit {0}
IsNotCut (refusals.Failure e) = Unit {0}

-- the strict element at the front, of at most so many content octets, with the octets after it
abbrev pub cut_at : List ℕ → Answer Element
cut_at octets = then_read (strict_at octets) (λ h after. if nat_lt 4_294_967_295 h.size then refuse errors.InvalidLength else content_at h after)

-- what is read of the element at the front: if that isn't there, its refusal; if it is whole, no
-- octets are reported as missing
abbrev pub ReadsFront : {A X : Type 0} → Answer A → Result X (Refusal Error) → Type 0
ReadsFront (Ok p) result = IfErr result IsNotCut
ReadsFront (Err x) result = IsErrAnd result (λ e. e ≡ x)

-- memory ran out
abbrev pub WantsMemory : Refusal Error → Type 0
WantsMemory e = e ≡ refusals.Failure OutOfMemory

-- the error of a primitive element of this tag number whose content its line doesn't allow
abbrev pub line_error : ℕ → Error
line_error n =
    if n == 1 || n == 5 then errors.InvalidLength else
    if n == 2 || n == 3 || n == 6 || n == 10 || n == 13 then errors.BerValueError else
    if n == 12 || n == 18 || n == 19 || n == 22 || n == 26 then errors.StringInvalidCharset else
    if n == 23 || n == 24 then errors.InvalidDateTime else errors.InvalidTag

-- the error of an element that holds nothing, parts aside
abbrev pub leaf_error : Element → Error
leaf_error e = if e.constructed then errors.ConstructUnexpected else line_error e.tag
