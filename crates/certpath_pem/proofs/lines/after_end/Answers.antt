use Rattle.std.proofs.Common.{[], ◌∷◌, Some, None, refl, inl, inr}
use Rattle.std.proofs.lemmas.Bool.Decides.{Decides-eqb}
use Rattle.std.proofs.lemmas.Slice.Eq.{strip_prefix_is}
use Rattle.certpath_pem.proofs.LineFacts.{one_end}
use Rattle.certpath_pem.proofs.lines.after_end.Goals as goal

pub returns-in-Some : goal.returns-in-Some
returns-in-Some c = (13 ∷ 10 ∷ [], strip_prefix_is Decides-eqb c.args.text.now (13 ∷ 10 ∷ []) (Some c.in-Some.rest) c.in-Some.ensures.cases, inr (inl refl))

pub returns : goal.returns
returns c =
    let is = c.in-Some-split_first.ensures.cases.0 in
    one_end c.args.text.now _ c.in-Some-split_first.rest.now is (c.requires _ _ is) (strip_prefix_is Decides-eqb c.args.text.now (13 ∷ 10 ∷ []) None c.in_default.ensures.cases)
