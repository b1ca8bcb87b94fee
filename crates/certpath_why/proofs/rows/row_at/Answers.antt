use Rattle.std.proofs.Common.{ap, ◌∙◌, Vec, Global, ℕ}
use Rattle.std.proofs.lemmas.List.{get_or_default}
use Rattle.certpath_why.proofs.rows.row_at.Goals as goal

pub returns : goal.returns
returns c = λ r.
    c.as_slice.ensures.value ∙ ap (λ (z : Vec ℕ Global). z.items) (c.index-lists-place.is ∙ get_or_default c.args.lists.now c.args.place c.index-lists-place.result r c.requires)
