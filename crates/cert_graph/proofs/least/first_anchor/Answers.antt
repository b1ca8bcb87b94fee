use Rattle.std.proofs.Common.{ℕ, ◌∙◌, sym, subst, ap, Option}
use Rattle.std.specs.Prelude.{slice_get, Contains}
use Rattle.cert_graph.specs.Least.{IsLeastOption}
use Rattle.cert_graph.proofs.Lowest.{first_least}
use Rattle.cert_graph.proofs.least.first_anchor.Goals as goal

pub returns : goal.returns
returns c =
    subst (λ (o : Option ℕ). IsLeastOption (λ a. Contains c.args.group.now.anchors.items a × Unit {0}) o)
    (sym (c.copied.ensures ∙ c.first.ensures.value ∙ ap (λ xs. slice_get xs 0) c.deref.ensures.value))
    (first_least c.args.group.now.anchors.items c.args.group.now.anchors_ascend)
