-- How an error becomes a reader's refusal, and what a refusal says at another place.
use Rattle.std.proofs.Common.{◌≡◌, ◌≢◌, ◌⊎◌, inl, inr, refl, sym, subst, ℕ, ◌<◌, List, [], ◌++◌, length, Result, Ok, Err}
use Rattle.std.proofs.lemmas.List.{append-nil}
use Rattle.asn1_core.specs.Answers.{TakesNoMemory}
use Rattle.asn1_core.specs.Conversions.{FailsForMemory, RefusesWith, RefusesFor, Converts, TellsWhole}
use Rattle.asn1_core.specs.declared.error.Error.{Error}
use Rattle.asn1_core.specs.declared.error.Error.TheVariants as errors
use Rattle.asn1_core.specs.declared.error.Needed.{Needed}
use Rattle.asn1_core.specs.declared.error.Needed.TheVariants as needed
use Rattle.asn1_core.specs.declared.outcome.Err.{Err as Refusal}
use Rattle.asn1_core.specs.declared.outcome.Err.TheVariants as refusals
use Rattle.asn1_traits.specs.Reads.{IsNoMemory, Refuses, RefusesAt, NoneReads, Lacks}

-- lack of memory is a failure, every other error a refusal
memory_or : {E : Type 0} (gives : Error → E → Type 0) (x : Error) (r : Refusal E) → RefusesFor gives x r →
    ((x ≡ errors.OutOfMemory) × FailsForMemory gives r) ⊎ ((x ≢ errors.OutOfMemory) × RefusesWith gives x r)
memory_or gives errors.OutOfMemory r h = inl (refl, h)
memory_or gives x r h = inr ((λ e. cc), h)

-- an error that isn't `OutOfMemory`, converted, isn't either
not_memory : {E : Type 0} (gives : Error → E → Type 0) (x : Error) (r : Refusal E) (P : Refusal E → Type 0) → x ≢ errors.OutOfMemory → RefusesWith gives x r →
    ((e : E) → IsNoMemory gives e → P (refusals.Error e)) → P r
not_memory gives x (refusals.Incomplete n) P ne h f = absurd h
not_memory gives x (refusals.Error e) P ne h f = f e (inl (x, ne, h))
not_memory gives x (refusals.Failure e) P ne h f = absurd h

failed : {E : Type 0} (gives : Error → E → Type 0) (r : Refusal E) (P : Refusal E → Type 0) → FailsForMemory gives r → ((e : E) → gives errors.OutOfMemory e → P (refusals.Failure e)) → P r
failed gives (refusals.Incomplete n) P h f = absurd h
failed gives (refusals.Error e) P h f = absurd h
failed gives (refusals.Failure e) P h f = f e h

-- an error, converted to a refusal, refuses what it says that there isn't
pub refused_for : {E : Type 0} (gives : Error → E → Type 0) (grows : Type 0) (x : Error) (r : Refusal E) (none : Type 0) → RefusesFor gives x r → (x ≡ errors.OutOfMemory → grows) → (x ≢ errors.OutOfMemory → none) → Refuses gives grows r none
refused_for gives grows x r none h m f =
    let P : Refusal _ → Type 0 = λ z. Refuses gives grows z none in
    elim (memory_or gives x r h) [
      | inl p ↦ failed gives r P p.1 (λ e g. (g, m p.0))
      | inr p ↦ not_memory gives x r P p.0 p.1 (λ e ne. (f p.0, ne))
    ]

-- a refusal of a reader that takes no memory, its error converted
pub refused_at : {V E : Type 0} (gives : Error → E → Type 0) (grows : Type 0) (Cut : List ℕ → Needed → Type 0) (reads : List ℕ → V → List ℕ → Type 0) (octets : List ℕ) (given : Refusal Error) (r : Refusal E) →
    Converts gives given r → TakesNoMemory given → NoneReads reads octets → ((n : Needed) → given ≡ refusals.Incomplete n → Cut octets n × Lacks reads octets n) → ((n : Needed) → Cut octets n → given ≡ refusals.Incomplete n) →
    RefusesAt gives grows Cut reads octets r
refused_at gives grows Cut reads octets (refusals.Incomplete n) r h t none cut only = let P : Refusal _ → Type 0 = λ z. RefusesAt gives grows Cut reads octets z in subst P (sym h) (cut n refl)
refused_at gives grows Cut reads octets (refusals.Error e) r h t none cut only =
    let P : Refusal _ → Type 0 = λ z. RefusesAt gives grows Cut reads octets z in
    not_memory gives e r P t h (λ f ne. (none, ne, λ n is. let bad = only n is in cc))
refused_at gives grows Cut reads octets (refusals.Failure e) r h t none cut only = absurd t

-- a refusal says as well what follows
pub refused_too : {E : Type 0} (gives : Error → E → Type 0) (grows : Type 0) (r : Refusal E) (none also : Type 0) → Refuses gives grows r none → (none → also) → Refuses gives grows r also
refused_too gives grows (refusals.Incomplete n) none also h f = absurd h
refused_too gives grows (refusals.Error e) none also h f = (f h.0, h.1)
refused_too gives grows (refusals.Failure e) none also h f = h

-- a refusal of what is whole is one of octets that don't end within it
pub refused_whole : {V E : Type 0} (gives : Error → E → Type 0) (grows : Type 0) (Cut : List ℕ → Needed → Type 0) (reads : List ℕ → V → List ℕ → Type 0) (octets : List ℕ) (r : Refusal E) (none : Type 0) →
    Refuses gives grows r none → (none → NoneReads reads octets) → ((n : Needed) → Cut octets n → ⊥) → RefusesAt gives grows Cut reads octets r
refused_whole gives grows Cut reads octets (refusals.Incomplete n) none h f whole = absurd h
refused_whole gives grows Cut reads octets (refusals.Error e) none h f whole = (f h.0, h.1, whole)
refused_whole gives grows Cut reads octets (refusals.Failure e) none h f whole = h

-- no value begins octets of which some are missing
pub lacks_none : {V : Type 0} (reads : List ℕ → V → List ℕ → Type 0) (octets : List ℕ) (n : Needed) → Lacks reads octets n → NoneReads reads octets
lacks_none reads octets needed.Unknown h = absurd h
lacks_none {V} reads octets (needed.Size n) h = let P : List ℕ → Type 0 = λ z. NoneReads reads z in subst P (append-nil octets) (h.1 [] h.0)

-- a part's refusal is one of the whole
pub part_refused : {V E : Type 0} (gives : Error → E → Type 0) (grows more : Type 0) (Cut : List ℕ → Needed → Type 0) (reads : List ℕ → V → List ℕ → Type 0) (octets : List ℕ) (given r : Refusal E) (none : Type 0) → (grows → more) →
    RefusesAt gives grows Cut reads octets given → TellsWhole gives given r → (NoneReads reads octets → none) → Refuses gives more r none
part_refused gives grows more Cut reads octets (refusals.Incomplete n) r none g h w f =
    let P : Refusal _ → Type 0 = λ z. Refuses gives more z none in
    not_memory gives (errors.Incomplete n) r P (λ e. cc) w (λ e ne. (f (lacks_none reads octets n h.1), ne))
part_refused gives grows more Cut reads octets (refusals.Error e) r none g h w f = let P : Refusal _ → Type 0 = λ z. Refuses gives more z none in subst P (sym w) (f h.0, h.1)
part_refused gives grows more Cut reads octets (refusals.Failure e) r none g h w f = let P : Refusal _ → Type 0 = λ z. Refuses gives more z none in subst P (sym w) (h.0, g h.1)
