-- What isn't handed over.
use Rattle.std.proofs.Common.{◌≡◌, ◌≢◌, sym, subst, ℕ, List, Err}
use Rattle.asn1_core.specs.declared.error.Error.{Error}
use Rattle.asn1_core.specs.declared.error.Error.TheVariants as errors
use Rattle.asn1_core.specs.declared.outcome.Err.{Err as Refusal}
use Rattle.asn1_core.specs.declared.outcome.Err.TheVariants as refusals
use Rattle.asn1_core.specs.Answers.{TakesNoMemory}
use Rattle.asn1_core.specs.Conversions.{Converts, RefusesWith}
use Rattle.asn1_core.specs.Missing.{IsMissing}
use Rattle.der_parser.specs.Handed.{Unwanted}
use Rattle.der_parser.specs.Refusals.{tagged_at}
use Rattle.der_parser.specs.Tagged.{HasTagged}

refused_by : {E : Type 0} (gives : Error → E → Type 0) (n : ℕ) (i : List ℕ) (e : Error) (r : Refusal E) →
    (HasTagged n i → ⊥) → e ≢ errors.OutOfMemory → tagged_at n i ≡ Err (refusals.Error e) → RefusesWith gives e r → Unwanted gives n i r
refused_by gives n i e (refusals.Incomplete m) none memory is given = absurd given
refused_by gives n i e (refusals.Error x) none memory is given = (none, (e, memory, given, is))
refused_by gives n i e (refusals.Failure x) none memory is given = absurd given

-- the refusal of an element, converted
pub unwanted : {E : Type 0} (gives : Error → E → Type 0) (n : ℕ) (i : List ℕ) (d : Refusal Error) (r : Refusal E) →
    (HasTagged n i → ⊥) → IsMissing (HasTagged n) i d → TakesNoMemory d → tagged_at n i ≡ Err d → Converts gives d r → Unwanted gives n i r
unwanted gives n i (refusals.Incomplete m) r none gone memory is given = subst (λ z. Unwanted gives n i z) (sym given) (none, gone, is)
unwanted gives n i (refusals.Error e) r none gone memory is given = refused_by gives n i e r none memory is given
unwanted gives n i (refusals.Failure e) r none gone memory is given = absurd memory
