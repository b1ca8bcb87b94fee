-- A signed part that is read in steps is the one that is read at once.
use Rattle.std.proofs.Common.{◌≡◌, ◌∙◌, refl, sym, Ok, Err}
use Rattle.asn1_any.specs.Cutting.{Piece}
use Rattle.x509_core.specs.Answers.{Answer, ◌>>=◌}
use Rattle.x509_core.specs.Reading.{content_in}
use Rattle.x509_names.specs.Reading.{algorithm_at, name_at}
use Rattle.x509_time.specs.Reading.{time_at, next_update_at}
use Rattle.x509_ext.specs.Fields.{ValueReading}
use Rattle.x509_lists.specs.Reading.{version_at, entries_at, tbs_in}
use Rattle.x509_lists.specs.Steps.{signer_at, dates_at, revoked_at, signed_at}

-- equal functions do one thing with each value
then_same : {A B : Type 0} (a : Answer A) (f g : A → Answer B) → ((x : A) → f x ≡ g x) → a >>= f ≡ a >>= g
then_same (Ok x) f g same = same x
then_same (Err e) f g same = refl

-- a value that is made of two, and what is done with it
of_one : {B C D : Type 0} (b : Answer B) (made : B → C) (f : C → Answer D) → (b >>= λ y. Ok (made y)) >>= f ≡ b >>= λ y. f (made y)
of_one (Ok y) made f = refl
of_one (Err e) made f = refl

of_two : {A B C D : Type 0} (a : Answer A) (next : A → Answer B) (made : A → B → C) (f : C → Answer D)
    → (a >>= λ x. next x >>= λ y. Ok (made x y)) >>= f ≡ a >>= λ x. next x >>= λ y. f (made x y)
of_two (Ok x) next made f = of_one (next x) (made x) f
of_two (Err e) next made f = refl

pub tbs_by_steps : (parse : ValueReading) (q : Piece) → tbs_in parse q ≡ content_in 16 q.element >>= signed_at parse q.octets
unfolding tbs_in signer_at dates_at revoked_at
tbs_by_steps parse q =
    then_same (content_in 16 q.element) _ _ (λ content.
    then_same (algorithm_at (version_at content).1) _ _ (λ signature.
    then_same (name_at signature.1) _ _ (λ issuer.
    then_same (time_at issuer.1) _ _ (λ this_update.
    then_same (next_update_at this_update.1) _ _ (λ next_update.
    sym (of_two (entries_at parse next_update.1) _ _ _)))
    ∙ sym (of_two (time_at issuer.1) _ _ _)))
    ∙ sym (of_two (algorithm_at (version_at content).1) _ _ _))
