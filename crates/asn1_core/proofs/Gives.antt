-- From a clause `Gives view result (reading octets)` to facts on what was returned.
use Rattle.std.proofs.Common.{◌≡◌, Result, Ok, Err, IfOk, IfErr, IsOkAnd, sym, ap}
use Rattle.asn1_core.specs.declared.error.Error.{Error}
use Rattle.asn1_core.specs.declared.outcome.Err.{Err as Refusal}
use Rattle.asn1_core.specs.Answers.{Gives}

-- what holds of each answer of the reading holds of the call's
pub gives_found : {X Y : Type 0} (view : X → Y) (r : Result X (Refusal Error)) (read : Result Y (Refusal Error)) (P : Y → Type 0)
    → Gives view r read → ((y : Y) → read ≡ Ok y → P y) → IfOk r (λ x. P (view x))
gives_found view (Ok x) read P given each = each (view x) given
gives_found view (Err e) read P given each = tt

-- what the reading returns, the call returns
pub gives_only : {X A B : Type 0} (f : X → A) (g : X → B) (r : Result X (Refusal Error)) (a : A) (b : B) → Gives {Y = A × B} (λ x. (f x, g x)) r (Ok (a, b))
    → IsOkAnd r (λ x. (f x ≡ a) × (g x ≡ b))
gives_only {X = X} {A = A} {B = B} f g (Ok x) a b given =
    let both : (a, b) ≡ (f x, g x) = cc in
    (sym (ap (λ (p : A × B). p.0) both), sym (ap (λ (p : A × B). p.1) both))
gives_only f g (Err e) a b given = cc

-- what holds of each refusal of the reading holds of the call's
pub gives_refused : {X Y : Type 0} (view : X → Y) (r : Result X (Refusal Error)) (read : Result Y (Refusal Error)) (Q : Refusal Error → Type 0)
    → Gives view r read → ((e : Refusal Error) → read ≡ Err e → Q e) → IfErr r Q
gives_refused view (Ok x) read Q given each = tt
gives_refused view (Err e) read Q given each = each e given
