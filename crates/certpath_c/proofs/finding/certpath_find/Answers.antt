use Rattle.std.proofs.Common.{refl, subst, ◌∙◌, true, false, ℕ, List, inl, inr}
use Rattle.certpath_c.specs.Answers.{positions_of}
use Rattle.certpath_c.specs.Writing.{PutsBoth}
use Rattle.certpath_c.proofs.finding.certpath_find.Goals as goal

pub returns-then-put_both : goal.returns-then-put_both
returns-then-put_both c =
    let answer = c.in-Ok.answer in
    let puts : List ℕ → List ℕ → Type 0 = λ path entries. PutsBoth c.args.positions.now c.put_both.new.buffer path c.args.table.now c.put_both.new.other entries true in
    let path = subst (λ p. puts p c.deref-2.result.now) c.positions_of.ensures c.if-put_both.ensures in
    inl (
      refl,
      record {
        policy = c.in-Some.policy;
        is_policy = c.in-Some.ensures.found;
        answer = answer;
        is_found = c.in-Ok.ensures;
        is_row = c.row_of.ensures;
        fit = c.in-Ok-entries_of.ensures.fits;
        written = subst (puts (positions_of answer)) (c.deref-2.ensures.value ∙ c.in-Ok-entries_of.ensures.entries) path;
      },
    )

pub returns : goal.returns
returns c =
    let answer = c.in-Ok.answer in
    let puts : List ℕ → List ℕ → Type 0 = λ path entries. PutsBoth c.args.positions.now c.put_both.new.buffer path c.args.table.now c.put_both.new.other entries false in
    let path = subst (λ p. puts p c.deref-2.result.now) c.positions_of.ensures c.if-put_both.ensures in
    inr (inl (
      refl,
      record {
        policy = c.in-Some.policy;
        is_policy = c.in-Some.ensures.found;
        answer = answer;
        is_found = c.in-Ok.ensures;
        is_row = c.row_of.ensures;
        fit = c.in-Ok-entries_of.ensures.fits;
        written = subst (puts (positions_of answer)) (c.deref-2.ensures.value ∙ c.in-Ok-entries_of.ensures.entries) path;
      },
    ))

pub returns-in_default-wanted_of : goal.returns-in_default-wanted_of
returns-in_default-wanted_of c = inr (inr (inr (inl (refl, (c.in-Some.policy, c.in-Some.ensures.found), c.in_default-wanted_of.ensures.none, refl, refl, refl))))
