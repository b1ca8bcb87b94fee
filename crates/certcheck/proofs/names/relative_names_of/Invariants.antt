use Rattle.std.proofs.Common.{◌≡◌, ◌++◌, List, map, length, option_map}
use Rattle.cert_model.specs.Fields.{RelativeName}
use Rattle.cert_model.specs.View.{attr_view}
use Rattle.cert_model.specs.Reads.{relative_name_at, list_at}
use Rattle.certcheck.specs.Windows.{trees_in}
use Rattle.certcheck.proofs.names.relative_names_of.Given as goal

-- What was read, before what the parts left are, is what all parts are.
abbrev pub invariant-loop-part : goal.invariant-loop-part
invariant-loop-part l = option_map (λ (rest : List RelativeName). map (λ set. map attr_view set.items) l.sets.items ++ rest) (list_at relative_name_at (trees_in l.rest)) ≡ list_at relative_name_at (trees_in l.parts)

abbrev pub decreases-loop-part : goal.decreases-loop-part
decreases-loop-part l = length l.rest
