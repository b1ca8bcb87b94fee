-- Which way a test went, and which steps of a reading gave its answer.
use Rattle.std.proofs.Common.{◌≡◌, ℕ, List, Bool, true, false, cond, Ok, Err, ◌⊎◌, inl, inr, refl, ap}
use Rattle.asn1_core.specs.Answers.{Answer, then_read}

-- a choice that gave z, by its test
pub chosen : {X : Type 0} (b : Bool) (x y z : X) → cond b x y ≡ z → ((b ≡ true) × (x ≡ z)) ⊎ ((b ≡ false) × (y ≡ z))
chosen b x y z given = elim b as (λ t. cond t x y ≡ z → ((t ≡ true) × (x ≡ z)) ⊎ ((t ≡ false) × (y ≡ z)))
    [ true ↦ λ e. inl (refl, e) | false ↦ λ e. inr (refl, e) ] given

-- one answer has one value and one rest
pub same_answer : {A : Type 0} (a b : A) (xs ys : List ℕ) → (let x : Answer A = Ok (a, xs) in x ≡ Ok (b, ys)) → (a ≡ b) × (xs ≡ ys)
same_answer {A = A} a b xs ys given =
    let both : (a, xs) ≡ (b, ys) = cc in
    (ap (λ (x : A × List ℕ). x.0) both, ap (λ (x : A × List ℕ). x.1) both)

-- a reading in two steps that gave an answer took both
pub two_steps : {A B : Type 0} (first : Answer A) (f : A → List ℕ → Answer B) (y : B × List ℕ)
    → then_read first f ≡ Ok y → (x : A × List ℕ) × (first ≡ Ok x) × (f x.0 x.1 ≡ Ok y)
two_steps (Ok x) f y given = (x, refl, given)
two_steps (Err e) f y given = cc
