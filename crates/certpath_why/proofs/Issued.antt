-- The lists in force of issuers, as they are added and looked up.
use Rattle.std.specs.Prelude.{IfSome, option_copied}
use Rattle.std.proofs.Common.{◌≡◌, ◌∙◌, ap, sym, subst, ℕ, cond, List, [], Option, Some, None, Bor, inl, inr}
use Rattle.std.specs.BTreeMap as mapped
use Rattle.std.specs.BTreeMap.{BTreeMap, is_at}
use Rattle.std.specs.Map.{lookup}
use Rattle.std.proofs.lemmas.Bool.{cases_Bool, cond-true, cond-false}
use Rattle.jiff_core.specs.declared.civil.datetime.DateTime.{DateTime}
use Rattle.cert_graph.proofs.Gathering.{E, R, same}
use Rattle.cert_judge.specs.declared.items.ReadItem.{ReadItem}
use Rattle.cert_reasons.specs.declared.in_force.ListsInForce.{ListsInForce}
use Rattle.cert_reasons.specs.InForce.{AreListsInForce}

some_none : {X : Type 0} {x : X} → Some x ≡ None → ⊥
some_none e = cc

one_held : {X : Type 0} {x y : X} → Some x ≡ Some y → x ≡ y
one_held e = cc

-- what is in a map under a name are its lists
abbrev AreHeld : List ReadItem → DateTime → BTreeMap (Bor (List ℕ)) ListsInForce → Type 0
AreHeld xs moment m = (q : Bor (List ℕ)) (lists : ListsInForce) → mapped.get R m q ≡ Some lists → AreListsInForce xs moment q.now lists

pub held_none : (xs : List ReadItem) (moment : DateTime) (m : BTreeMap (Bor (List ℕ)) ListsInForce) → m.entries ≡ [] → AreHeld xs moment m
held_none xs moment m empty q lists is =
    let none : mapped.get R m q ≡ None = ap (λ es. lookup (is_at (R q)) es) empty in
    absurd (some_none (sym is ∙ none))

pub held_more : (xs : List ReadItem) (moment : DateTime) (m n : BTreeMap (Bor (List ℕ)) ListsInForce) (t : Bor (List ℕ)) (l : ListsInForce) → AreHeld xs moment m → AreListsInForce xs moment t.now l
    → ((q : Bor (List ℕ)) → mapped.get R n q ≡ cond (E t.now q.now) (Some l) (mapped.get R m q)) → AreHeld xs moment n
held_more xs moment m n t l h own update q lists is = elim (cases_Bool (E t.now q.now)) [
  | inl eq ↦
      let this : lists ≡ l = one_held (sym is ∙ update q ∙ cond-true _ _ _ eq) in
      subst (λ (z : List ℕ). AreListsInForce xs moment z lists) ((same t.now q.now).0 eq) (subst (AreListsInForce xs moment t.now) (sym this) own)
  | inr un ↦ h q lists (sym (update q ∙ cond-false _ _ _ un) ∙ is)
]

pub held_found : (xs : List ReadItem) (moment : DateTime) (m : BTreeMap (Bor (List ℕ)) ListsInForce) (q : Bor (List ℕ)) (o : Option (Bor ListsInForce)) → option_copied o ≡ mapped.get R m q → AreHeld xs moment m
    → IfSome o (λ lists. AreListsInForce xs moment q.now lists.now)
held_found xs moment m q None e h = tt
held_found xs moment m q (Some l) e h = h q l.now (sym e)
