use Rattle.std.specs.Borrow.{Bor}
use Rattle.std.specs.Prelude.{option_map, is_some}
use Rattle.std.proofs.Common.{◌≡◌, ◌∙◌, ℕ, List, sym, subst, refl, Option, true, Some, None}
use Rattle.std.proofs.lemmas.Bool.{false≢true}
use Rattle.host_names.specs.Hosts.{AreSame, labels_of}
use Rattle.host_names.proofs.LabelFacts.{behind_to, behind_from}
use Rattle.host_names.proofs.name.matches_behind.Goals as goal
use Rattle.host_names.proofs.name.matches_behind.Goals.{then-not-is_same-via-then-not-is_same, then-not-is_same-via-else-not-is_same+then-not-is_name}

some_in : (o : Option (Bor (List ℕ))) (a : Option (List ℕ)) → option_map (λ (r : Bor (List ℕ)). r.now) o ≡ a → is_some o ≡ true → (x : List ℕ) × (a ≡ Some x)
some_in None a e t = absurd (false≢true t)
some_in (Some r) a e t = (r.now, sym e)

some_from : (o : Option (Bor (List ℕ))) (a : Option (List ℕ)) (x : List ℕ) → option_map (λ (r : Bor (List ℕ)). r.now) o ≡ a → a ≡ Some x → is_some o ≡ true
some_from None a x e s = cc
some_from (Some r) a x e s = refl

pub returns-in_default : goal.returns-in_default
returns-in_default c = (
  λ h. absurd (false≢true h),
  λ m.
      let b = behind_to c.args.rest.now c.args.host.now m in
      let f = b.1.follows in
      let e = c.in_default.ensures in cc,
)

pub returns-then-not-is_same : goal.returns-then-not-is_same
returns-then-not-is_same c = (
  λ h. absurd (false≢true h),
  λ m.
      let b = behind_to c.args.rest.now c.args.host.now m in
      let f = b.1.follows in
      let e = c.in-Some.ensures in
      let same : b.0 ≡ c.in-Some.behind.now = cc in
      elim c.then-not-is_same.branch [
        | then-not-is_same-via-then-not-is_same w ↦
            let t : c.is_same.result ≡ true = c.is_same.ensures.1 (subst (λ z. AreSame (labels_of c.args.rest.now) (labels_of z)) same b.1.same) in
            sym w.if-not-is_same.true ∙ t
        | then-not-is_same-via-else-not-is_same+then-not-is_name w ↦
            let t : w.is_name.result ≡ true = w.is_name.ensures.1 b.1.labels in
            sym w.if-not-is_name.true ∙ t
      ],
)

pub returns : goal.returns
returns c = (
  λ h.
      let s = some_in c.after_label-2.result _ c.after_label-2.ensures (sym c.is_some.ensures ∙ h) in
      behind_from c.args.rest.now c.args.host.now c.in-Some.behind.now (record {
        follows = sym c.in-Some.ensures;
        same = c.is_same.ensures.0 c.if-not-is_same.false;
        labels = c.is_name.ensures.0 c.if-not-is_name.false;
        second = s;
      }),
  λ m.
      let b = behind_to c.args.rest.now c.args.host.now m in
      let s = b.1.second in
      c.is_some.ensures ∙ some_from c.after_label-2.result _ s.0 c.after_label-2.ensures s.1,
)
