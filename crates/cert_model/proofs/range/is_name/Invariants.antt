use Rattle.std.proofs.Common.{◌↔◌, map, drop}
use Rattle.std.specs.List.{AllByRecursion}
use Rattle.cert_model.specs.Range.{IsRelativeName}
use Rattle.cert_model.specs.View.{attr_view}
use Rattle.cert_model.proofs.range.is_name.Given as goal

-- what is left decides
abbrev pub invariant-loop-set : goal.invariant-loop-set
invariant-loop-set l = AllByRecursion IsRelativeName (map (λ set. map attr_view set.items) (drop l.set-index l.name.sets.items)) ↔ AllByRecursion IsRelativeName (map (λ set. map attr_view set.items) l.name.sets.items)
