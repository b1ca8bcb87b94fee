-- Texts appended one after another.
use Rattle.std.proofs.Common.{◌≡◌, ◌∙◌, ap, ℕ, List, ◌++◌, append_assoc}

pub then_appended : (first a b old new : List ℕ) → new ≡ old ++ b → old ≡ first ++ a → new ≡ first ++ (a ++ b)
then_appended first a b old new two one = two ∙ ap (λ l. l ++ b) one ∙ append_assoc first a b

pub then_joined : (first a b c old new : List ℕ) → new ≡ old ++ c → old ≡ first ++ (a ++ b) → new ≡ first ++ (a ++ (b ++ c))
then_joined first a b c old new two one = then_appended first (a ++ b) c old new two one ∙ ap (λ l. first ++ l) (append_assoc a b c)
