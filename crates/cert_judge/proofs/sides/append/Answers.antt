use Rattle.std.proofs.Common.{◌≡◌, ◌∙◌, ◌++◌, ap, sym, subst, ℕ, List, inl, inr}
use Rattle.std.specs.Prelude.{Contains}
use Rattle.cert_judge.proofs.Listed.{in_list, appended}
use Rattle.cert_judge.proofs.sides.append.Goals as goal

pub returns-in_ok-extend_from_slice : goal.returns-in_ok-extend_from_slice
returns-in_ok-extend_from_slice c =
    let vectors = c.args.lists.now in
    let l = c.in-Some.list.now in
    let all = c.args.all.now.items in
    let look = c.in-Some.ensures.lookup in
    let items : c.extend_from_slice.new.self.items ≡ all ++ l.items = c.in_ok-extend_from_slice.ensures.items ∙ ap (λ (z : List ℕ). all ++ z) c.deref.ensures.value in λ v.
    let a = appended all l.items v in
    let i = in_list vectors c.args.number l look.3.0 look.1 v in (
      λ h. elim (a.0 (subst (λ z. Contains z v) items h)) [ inl x ↦ inl x | inr x ↦ inr (i.1 x) ],
      λ h. subst (λ z. Contains z v) (sym items) (a.1 (elim h [ inl x ↦ inl x | inr x ↦ inr (i.0 x) ])),
    )
