-- What an iterator gives from its first call to its end.
use Rattle.std.proofs.Common.{arith, ◌≡◌, ◌<◌, refl, subst, ◌∙◌, ℕ, List, [], ◌∷◌, length, Option, Some, None, Result, Ok, Err}
use Rattle.std.specs.Iterator.{Yields}
use Rattle.asn1_core.specs.declared.error.Error.{Error}
use Rattle.asn1_core.specs.declared.outcome.Err.{Err as Refusal}
use Rattle.asn1_core.specs.declared.outcome.Err.TheVariants as refusals
use Rattle.asn1_traits.specs.Reads.{Refuses}
use Rattle.asn1_traits.specs.Lists.{AllRead}
use Rattle.asn1_traits.specs.ListLaws.{OneRest}
use Rattle.asn1_lists.specs.Steps.{Steps, NoneTakes, Given, ValuesOr}

-- nothing is given after nothing
none_behind : {V E : Type 0} (gives : Error → E → Type 0) (grows : Type 0) (reads : List ℕ → V → List ℕ → Type 0) (octets last : List ℕ) (answers : List (Result V (Refusal E))) → octets ≡ [] →
    Yields (Steps gives grows reads) octets answers last → answers ≡ []
none_behind gives grows reads octets last [] e run = refl
none_behind {V} gives grows reads octets last (Ok v ∷ answers) e run = absurd (omega (arith, (let P : List ℕ → Type 0 = λ z. length run.0 < length z in let q : P [] = subst P e run.1.1 in q)))
none_behind gives grows reads octets last (Err r ∷ answers) e run = absurd (run.1.0 e)

pub given : {V E : Type 0} (gives : Error → E → Type 0) (grows : Type 0) (reads : List ℕ → V → List ℕ → Type 0) (octets last : List ℕ) (answers : List (Result V (Refusal E))) →
    Yields (Steps gives grows reads) octets answers last → last ≡ [] → Given gives grows reads octets answers
given gives grows reads octets last [] run e = run ∙ e
given gives grows reads octets last (Ok v ∷ answers) run e = (run.0, run.1.0, run.1.1, given gives grows reads run.0 last answers run.2 e)
given gives grows reads octets last (Err r ∷ answers) run e = (run.1.0, run.1.1, none_behind gives grows reads run.0 last answers run.1.2 run.2)

pub ends : {V E : Type 0} (gives : Error → E → Type 0) (grows : Type 0) (reads : List ℕ → V → List ℕ → Type 0) (rest : List ℕ) (answer : Option (Result V (Refusal E))) → Steps gives grows reads [] answer rest → (answer ≡ None) × (rest ≡ [])
ends gives grows reads rest None step = (refl, step.1)
ends gives grows reads rest (Some (Ok v)) step = absurd (omega (arith, step.1))
ends gives grows reads rest (Some (Err r)) step = absurd (step.0 refl)

-- a refusal is for lack of memory, if a value is there
memory_alone : {E : Type 0} (gives : Error → E → Type 0) (grows : Type 0) (r : Refusal E) (none : Type 0) {V : Type 0} (answers : List (Result V (Refusal E))) → Refuses gives grows r none → (none → ⊥) → ValuesOr gives (Err r ∷ answers)
memory_alone gives grows (refusals.Incomplete n) none answers h some = absurd h
memory_alone gives grows (refusals.Error e) none answers h some = some h.0
memory_alone gives grows (refusals.Failure e) none answers h some = h.0

pub values : {V E : Type 0} (gives : Error → E → Type 0) (grows : Type 0) (reads : List ℕ → V → List ℕ → Type 0) → OneRest reads → (octets : List ℕ) (vs : List V) (answers : List (Result V (Refusal E))) →
    AllRead reads octets vs → Given gives grows reads octets answers → ValuesOr gives answers
values gives grows reads once octets vs [] all run = tt
values gives grows reads once octets [] (Ok v ∷ answers) all run =
    absurd (omega (arith, (let P : List ℕ → Type 0 = λ z. length run.0 < length z in let q : P [] = subst P all run.2 in q)))
values {V} gives grows reads once octets (w ∷ vs) (Ok v ∷ answers) all run =
    let P : List ℕ → Type 0 = λ z. AllRead reads z vs in
    values gives grows reads once run.0 vs answers (subst P (once octets w v all.0 run.0 all.1 run.1) all.3) run.3
values gives grows reads once octets [] (Err r ∷ answers) all run = absurd (run.0 all)
values gives grows reads once octets (w ∷ vs) (Err r ∷ answers) all run = memory_alone gives grows r (NoneTakes reads octets) answers run.1 (λ none. none w all.0 all.1 all.2)
