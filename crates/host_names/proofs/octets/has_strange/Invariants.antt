use Rattle.std.proofs.Common.{◌≡◌, drop}
use Rattle.std.specs.List.{list_any}
use Rattle.host_names.specs.Refusals.{is_strange}
use Rattle.host_names.proofs.octets.has_strange.Given as goal

abbrev pub invariant-loop-one : goal.invariant-loop-one
invariant-loop-one l = list_any is_strange l.text ≡ list_any is_strange (drop l.one-index l.text)
