-- Who vouches for two items vouches alike on each question of them.
use Rattle.std.proofs.Common.{◌≡◌, subst, refl, zero, suc, ℕ, false, List, [], ◌∷◌, Some, None, slice_get}
use Rattle.cert_model.specs.Examples.{authority_b, issued_by_b}
use Rattle.std.specs.Prelude.{IsTrue}
use Rattle.cert_judge.specs.Examples.{in_june, numbered, vouching_for_both}
use Rattle.cert_judge.specs.Items.{rules_at}
use Rattle.cert_judge.specs.Revoking.{Item}
use Rattle.cert_questions.specs.Agreeing.{AgreeOnQuestions}
use Rattle.laws_judge.specs.Worked.{anything, first_two, under_c}

one_item : {x y : Item} → Some x ≡ Some y → x ≡ y
one_item e = cc

no_item : {x : Item} → None ≡ Some x → ⊥
no_item e = cc

vouched : (v : ℕ) (x : Item) (key : List ℕ) → slice_get (numbered 1 issued_by_b ∷ numbered 2 authority_b ∷ []) v ≡ Some x → IsTrue (vouching_for_both 1 2 key x.octets)
vouched zero x key at = subst (λ (i : Item). IsTrue (vouching_for_both 1 2 key i.octets)) (one_item at) refl
vouched (suc zero) x key at = subst (λ (i : Item). IsTrue (vouching_for_both 1 2 key i.octets)) (one_item at) refl
vouched (suc (suc v)) x key at = absurd (no_item at)

pub agreeing : AgreeOnQuestions (rules_at in_june false first_two) (rules_at in_june false anything) (numbered 1 issued_by_b ∷ numbered 2 authority_b ∷ []) under_c
agreeing = record {
  moment = refl;
  demand = refl;
  vouches = λ v h x key q at keyed. (λ t. refl, λ t. vouched v x key at);
  processed = λ x c id at is. (λ p. p, λ p. p);
}
