-- Want of memory, by a refusal and by its error; errors of refusals.
use Rattle.std.proofs.Common.{◌≡◌, ◌∙◌, refl, sym, ap, subst, ◌⊎◌, inl, inr, Result, Ok, Err, IfErr}
use Rattle.std.specs.Result.{IsErrAnd}
use Rattle.asn1_core.specs.Elements.{Element}
use Rattle.asn1_core.specs.declared.error.Error.TheVariants as der
use Rattle.asn1_core.specs.declared.outcome.Err.{Err as Refusal}
use Rattle.asn1_core.specs.declared.outcome.Err.TheVariants as refusals
use Rattle.x509_core.specs.declared.error.X509Error.{X509Error}
use Rattle.x509_core.specs.declared.error.X509Error.TheVariants as errors
use Rattle.x509_core.specs.Answers.{Answer, FailsWith, Fails, OrMemory, ◌>>=◌}
use Rattle.x509_core.specs.Errors.{held_error}
use Rattle.x509_core.specs.Fronts.{TakesNoMemory}
use Rattle.x509_core.specs.Reading.{Reader}
use Rattle.x509_core.proofs.LeafLaws.{content_only}
use Rattle.x509_algorithms.specs.Answers.{WantsFor}
use Rattle.x509_algorithms.specs.Reading.{parameters_of}

pub no_refusal : (e : Refusal X509Error) → TakesNoMemory e → OrMemory e → ⊥
no_refusal (refusals.Incomplete n) none memory = memory
no_refusal (refusals.Error e) none memory = memory
no_refusal (refusals.Failure e) none memory = none

pub memory_held : (e : Refusal X509Error) → OrMemory e → held_error e ≡ errors.OutOfMemory
memory_held (refusals.Incomplete n) memory = absurd memory
memory_held (refusals.Error e) memory = absurd memory
memory_held (refusals.Failure e) memory = memory

-- ---- a refusal and its error

held_fails : {A : Type 0} (refusal : Refusal X509Error) (x : X509Error) (read : Answer A) → x ≡ held_error refusal → Fails refusal read → (x ≡ errors.OutOfMemory) ⊎ FailsWith x read
held_fails (refusals.Incomplete n) x read is fails = inr (subst (λ z. FailsWith z read) (sym is) ((λ e. cc), fails))
held_fails (refusals.Error e) x read is fails = inr (subst (λ z. FailsWith z read) (sym is) fails)
held_fails (refusals.Failure e) x read is fails = inl (is ∙ fails)

-- what comes after a reading that fails plays no part
fails_then : {A B : Type 0} (x : X509Error) (read : Answer A) (f : A → Answer B) → FailsWith x read → FailsWith x (read >>= f)
fails_then errors.OutOfMemory read f fails = fails
fails_then {A = A} (errors.Der e) read f fails = (fails.0, ap (λ (z : Answer A). z >>= f) fails.1)
fails_then {A = A} (errors.NomError k) read f fails = ap (λ (z : Answer A). z >>= f) fails
fails_then {A = A} x read f fails = ap (λ (z : Answer A). z >>= f) fails

pub parameters_fail : {A : Type 0} (p : Reader A) (e : Element) (refusal : Refusal X509Error) (x : X509Error) → e.tag ≡ 16 → x ≡ held_error refusal → Fails refusal (p e.content)
    → (x ≡ errors.OutOfMemory) ⊎ FailsWith x (parameters_of p e)
parameters_fail {A = A} p e refusal x tag is fails =
    let same : parameters_of p e ≡ (p e.content >>= λ v. Ok v.0) = rw (content_only 16 e tag) refl in
    elim (held_fails refusal x (p e.content) is fails) [
      | inl memory ↦ inl memory
      | inr other ↦ inr (subst (λ (z : Answer A). FailsWith x z) (sym same) (fails_then x (p e.content) (λ v. Ok v.0) other))
    ]

-- ---- where memory is wanted

-- an exit by `?` passes the refusal on
pub passed_on : {X : Type 0} (r : Result X (Refusal X509Error)) (e : Refusal X509Error) (P : Refusal X509Error → Type 0) → IsErrAnd r (λ y. y ≡ e) → P e → IfErr r P
passed_on (Ok x) e P is so = absurd is
passed_on (Err y) e P is so = subst P (sym is) so

pub none_wanted : (need : Type 0) (e : Refusal X509Error) → TakesNoMemory e → WantsFor need e
none_wanted need (refusals.Incomplete n) none = tt
none_wanted need (refusals.Error e) none = tt
none_wanted need (refusals.Failure e) none = absurd none

pub is_wanted : (need : Type 0) (e : Refusal X509Error) → need → WantsFor need e
is_wanted need (refusals.Incomplete n) so = tt
is_wanted need (refusals.Error e) so = tt
is_wanted need (refusals.Failure e) so = so

pub wanted_so : (need more : Type 0) (e : Refusal X509Error) → (need → more) → WantsFor need e → WantsFor more e
wanted_so need more (refusals.Incomplete n) so wants = tt
wanted_so need more (refusals.Error e) so wants = tt
wanted_so need more (refusals.Failure e) so wants = so wants

pub held_wants : {A : Type 0} (need : Type 0) (refusal : Refusal X509Error) (x : X509Error) (read : Answer A) → x ≡ held_error refusal → Fails refusal read → WantsFor need refusal → x ≡ errors.OutOfMemory → need
held_wants need (refusals.Incomplete n) x read is fails wants memory = let wrong : errors.Der (der.Incomplete n) ≡ errors.OutOfMemory = sym is ∙ memory in cc
held_wants need (refusals.Error e) x read is fails wants memory = absurd (subst (λ z. FailsWith z read) (sym is ∙ memory) fails)
held_wants need (refusals.Failure e) x read is fails wants memory = wants
