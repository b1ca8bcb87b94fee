-- What the exits by `?` refuse.
use Rattle.std.proofs.Common.{◌≡◌, sym, ap, subst, ℕ, List, ◌++◌, Result, Ok, Err, IfErr}
use Rattle.std.specs.Result.{IsErrAnd}
use Rattle.asn1_core.specs.Answers.{Answer, TakesNoMemory}
use Rattle.asn1_core.specs.Missing.{IsMissing}
use Rattle.asn1_core.specs.Conversions.{TellsWhole}
use Rattle.asn1_core.specs.declared.error.Error.TheVariants as errors
use Rattle.asn1_core.specs.declared.error.Error.{Error}
use Rattle.asn1_core.specs.declared.error.Needed.TheVariants as needed
use Rattle.asn1_core.specs.declared.outcome.Err.{Err as Refusal}
use Rattle.asn1_core.specs.declared.outcome.Err.TheVariants as refusals
use Rattle.der_tree.specs.Outcome.{Refuses, ReadsFront, IsNotCut, WantsMemory}

pub weaker : (e : Refusal Error) (P Q : Type 0) → (P → Q) → Refuses e P → Refuses e Q
weaker (refusals.Incomplete n) P Q f p = f p
weaker (refusals.Error e) P Q f p = (f p.0, p.1)
weaker (refusals.Failure e) P Q f p = p

-- an exit by `?` passes the error on
pub passed_on : {T : Type 0} (r : Result T (Refusal Error)) (e : Refusal Error) (R : Refusal Error → Type 0) → IsErrAnd r (λ y. y ≡ e) → R e → IfErr r R
passed_on (Ok x) e R is p = absurd is
passed_on (Err y) e R is p = subst R (sym is) p

-- a part's refusal, as that of the whole
pub within_refuses : (gives : Error → Error → Type 0) (e r : Refusal Error) (P : Type 0) → ((x y : Error) → gives x y → y ≡ x) → TellsWhole gives e r → Refuses e P → Refuses r P
within_refuses gives (refusals.Incomplete n) (refusals.Error y) P same t p = let is = same (errors.Incomplete n) y t in (p, λ memory. cc)
within_refuses gives (refusals.Incomplete n) (refusals.Incomplete m) P same t p = absurd t
within_refuses gives (refusals.Incomplete n) (refusals.Failure y) P same t p = absurd t
within_refuses gives (refusals.Error e) r P same t p = subst (λ z. Refuses z P) (sym t) p
within_refuses gives (refusals.Failure e) r P same t p = subst (λ z. Refuses z P) (sym t) p

-- the refusal of a call that takes no memory
pub refused : (e : Refusal Error) (P : Type 0) → TakesNoMemory e → P → Refuses e P
refused (refusals.Incomplete n) P t p = p
refused (refusals.Error e) P t p = (p, t)
refused (refusals.Failure e) P t p = absurd t

pub missing_weaker : (e : Refusal Error) (i : List ℕ) (P Q : List ℕ → Type 0) → ((s : List ℕ) → Q s → P s) → IsMissing P i e → IsMissing Q i e
missing_weaker (refusals.Incomplete needed.Unknown) i P Q f p = p
missing_weaker (refusals.Incomplete (needed.Size n)) i P Q f p = (p.0, λ more few q. p.1 more few (f (i ++ more) q))
missing_weaker (refusals.Error e) i P Q f p = tt
missing_weaker (refusals.Failure e) i P Q f p = tt

-- what is read of an element that isn't there, and of one that is whole

pub front_refused : {A X : Type 0} (read : Answer A) (r : Result X (Refusal Error)) (e : Refusal Error) → read ≡ Err e → IsErrAnd r (λ x. x ≡ e) → ReadsFront read r
front_refused read r e is p = subst (λ a. ReadsFront a r) (sym is) p

pub front_whole : {A X : Type 0} (read : Answer A) (p : A × List ℕ) (r : Result X (Refusal Error)) → read ≡ Ok p → IfErr r IsNotCut → ReadsFront read r
front_whole read p r is whole = subst (λ a. ReadsFront a r) (sym is) whole

-- if a value is there, the only refusal is for lack of memory
pub only_memory : (e : Refusal Error) (P : Type 0) → Refuses e (P → ⊥) → P → WantsMemory e
only_memory (refusals.Incomplete n) P none p = absurd (none p)
only_memory (refusals.Error e) P none p = absurd (none.0 p)
only_memory (refusals.Failure e) P none p = ap refusals.Failure none
