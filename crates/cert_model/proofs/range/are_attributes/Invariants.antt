use Rattle.std.proofs.Common.{◌↔◌, map, drop}
use Rattle.std.specs.List.{AllByRecursion}
use Rattle.cert_model.specs.Range.{IsAttribute}
use Rattle.cert_model.specs.View.{attr_view}
use Rattle.cert_model.proofs.range.are_attributes.Given as goal

-- what is left decides
abbrev pub invariant-loop-attribute : goal.invariant-loop-attribute
invariant-loop-attribute l = AllByRecursion IsAttribute (map attr_view (drop l.attribute-index l.attributes)) ↔ AllByRecursion IsAttribute (map attr_view l.attributes)
