use Rattle.std.proofs.Common.{◌≡◌, map, drop}
use Rattle.cert_model.specs.Octets.{attribute_octets}
use Rattle.cert_model.specs.Range.{are_ascending}
use Rattle.cert_model.specs.View.{attr_view}
use Rattle.cert_model.proofs.ascending.are_attributes_ascending.Given as goal

-- what is left decides
abbrev pub invariant-loop-i : goal.invariant-loop-i
invariant-loop-i l =
    are_ascending (map attribute_octets (map attr_view l.attributes)) ≡ are_ascending (map attribute_octets (map attr_view (drop l.i l.attributes)))
