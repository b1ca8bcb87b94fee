-- What is kept under numbers.
use Rattle.std.proofs.Common.{◌≡◌, ◌∙◌, ap, sym, subst, ℕ, cond, eqb-true, [], Some, None, inl, inr}
use Rattle.std.specs.Cmp.{unsigned_tied}
use Rattle.std.specs.Ordering.{nat_cmp, eq_by_cmp}
use Rattle.std.specs.BTreeMap as mapped
use Rattle.std.specs.BTreeMap.{BTreeMap, is_at}
use Rattle.std.specs.Map.{lookup}
use Rattle.std.proofs.lemmas.Bool.{cases_Bool, cond-true, cond-false}

some_none : {X : Type 0} {x : X} → Some x ≡ None → ⊥
some_none e = cc

one_held : {X : Type 0} {x y : X} → Some x ≡ Some y → x ≡ y
one_held e = cc

module _ {X : Type 0} (P : ℕ → X → Type 0) where
  -- what is under each number has a property
  abbrev pub AreKept : BTreeMap ℕ X → Type 0
  AreKept m = (k : ℕ) (x : X) → mapped.get nat_cmp m k ≡ Some x → P k x

  pub kept_none : (m : BTreeMap ℕ X) → m.entries ≡ [] → AreKept m
  kept_none m empty k x is =
      let none : mapped.get nat_cmp m k ≡ None = ap (λ es. lookup (is_at (nat_cmp k)) es) empty in
      absurd (some_none (sym is ∙ none))

  pub kept_more : (m n : BTreeMap ℕ X) (k : ℕ) (x : X) → AreKept m → P k x → ((q : ℕ) → mapped.get nat_cmp n q ≡ cond (eq_by_cmp nat_cmp k q) (Some x) (mapped.get nat_cmp m q)) → AreKept n
  kept_more m n k x h own update q y is = elim (cases_Bool (eq_by_cmp nat_cmp k q)) [
    | inl eq ↦
        let place : k ≡ q = eqb-true k q (sym (unsigned_tied k q) ∙ eq) in
        let this : y ≡ x = one_held (sym is ∙ update q ∙ cond-true _ _ _ eq) in
        subst (λ v. P v y) place (subst (P k) (sym this) own)
    | inr un ↦ h q y (sym (update q ∙ cond-false _ _ _ un) ∙ is)
  ]
