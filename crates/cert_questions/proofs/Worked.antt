-- The worked case of questions.
use Rattle.std.specs.Prelude.{IsTrue}
use Rattle.std.proofs.Common.{◌≡◌, subst, refl, zero, suc, ℕ, ◌<◌, List, [], ◌∷◌, ◌++◌, Some, None, slice_get, false, arith}
use Rattle.cert_model.specs.Octets.{name_octets, key_octets}
use Rattle.cert_model.specs.Examples.{key, authority_b}
use Rattle.cert_judge.specs.Revoking.{Item}
use Rattle.cert_judge.specs.LawsOfItems.{rules_from}
use Rattle.cert_judge.specs.Examples.{in_june, told_backwards, vouching_for_both}
use Rattle.cert_questions.specs.Questions.{Holds, IsQuestion}
use Rattle.cert_questions.specs.Agreeing.{AgreeOnQuestions}
use Rattle.cert_questions.specs.Examples.{anchor_c, vouching_for_a_third}

none_before : (u : ℕ) → u < 0 → Holds (told_backwards ++ anchor_c) u (name_octets authority_b.subject) (key_octets key) → ⊥
none_before u lt h = absurd (omega arith)

pub issuer_asked : IsQuestion told_backwards anchor_c 1 0
issuer_asked = record {
  name = name_octets authority_b.subject;
  key = key_octets key;
  issued = refl;
  holder = record { holds = record { named = refl; keyed = refl }; first = none_before };
}

one_item : {x y : Item} → Some x ≡ Some y → x ≡ y
one_item e = cc

no_item : {x : Item} → None ≡ Some x → ⊥
no_item e = cc

-- all items of the case are vouched for by both
vouched : (v : ℕ) (x : Item) (k : List ℕ) → slice_get told_backwards v ≡ Some x → IsTrue (vouching_for_both 1 2 k x.octets) × IsTrue (vouching_for_a_third k x.octets)
vouched zero x k at = let e = one_item at in (subst (λ (i : Item). IsTrue (vouching_for_both 1 2 k i.octets)) e refl, subst (λ (i : Item). IsTrue (vouching_for_a_third k i.octets)) e refl)
vouched (suc zero) x k at = let e = one_item at in (subst (λ (i : Item). IsTrue (vouching_for_both 1 2 k i.octets)) e refl, subst (λ (i : Item). IsTrue (vouching_for_a_third k i.octets)) e refl)
vouched (suc (suc v)) x k at = absurd (no_item at)

pub agreeing : AgreeOnQuestions (rules_from in_june false (vouching_for_both 1 2)) (rules_from in_june false vouching_for_a_third) told_backwards anchor_c
agreeing = record {
  moment = refl;
  demand = refl;
  vouches = λ v h x k q at keyed. let both = vouched v x k at in (λ _. both.1, λ _. both.0);
  processed = λ x c id at is. (λ p. p, λ p. p);
}

pub third_vouched : (k : List ℕ) → IsTrue (vouching_for_a_third k (3 ∷ []))
third_vouched k = refl

pub third_not_before : (k : List ℕ) → IsTrue (vouching_for_both 1 2 k (3 ∷ [])) → ⊥
third_not_before k h = cc
