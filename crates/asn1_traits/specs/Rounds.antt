-- What is read back of what was written.
use Rattle.std.specs.Prelude.{◌≡◌, ℕ, List, Option, Some, None, Result, Ok, Err}
use Rattle.asn1_core.specs.Elements.{Element}
use Rattle.asn1_core.specs.declared.error.Error.{Error}
use Rattle.asn1_core.specs.declared.error.Error.TheVariants as errors
use Rattle.asn1_core.specs.declared.outcome.Err.{Err as Refusal}
use Rattle.asn1_core.specs.declared.outcome.Err.TheVariants as refusals

-- a value and the octets after it that are so, or memory ran out
abbrev pub BackOr : {V E I : Type 0} → (Error → E → Type 0) → (I → List ℕ) → (V → List ℕ → Type 0) → Result (I × V) (Refusal E) → Type 0
BackOr gives at P (Ok x) = P x.1 (at x.0)
BackOr gives at P (Err (refusals.Incomplete n)) = ⊥
BackOr gives at P (Err (refusals.Error e)) = ⊥
BackOr gives at P (Err (refusals.Failure e)) = gives errors.OutOfMemory e

-- both present, as equal elements, or both absent
abbrev pub SameOption : {V : Type 0} → (V → Option Element) → Option V → Option V → Type 0
SameOption element (Some v) (Some w) = element w ≡ element v
SameOption element (Some v) None = ⊥
SameOption element None (Some w) = ⊥
SameOption element None None = Unit {0}

-- what a rest has to be after a value: after an absent one it is read as absent
abbrev pub RestFits : {V : Type 0} → (List ℕ → Type 0) → Option V → List ℕ → Type 0
RestFits Absent None rest = Absent rest
RestFits Absent (Some v) rest = Unit {0}
