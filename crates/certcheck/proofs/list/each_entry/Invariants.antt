use Rattle.std.proofs.Common.{◌≡◌, ◌++◌, List, map, length, option_map}
use Rattle.cert_model.specs.Fields.{Entry}
use Rattle.cert_model.specs.View.{entry_view}
use Rattle.cert_model.specs.Reads.{list_at}
use Rattle.cert_model.specs.Pieces.{entry_at}
use Rattle.certcheck.specs.Windows.{trees_in}
use Rattle.certcheck.proofs.list.each_entry.Given as goal

-- What was read, before what the parts left are, is what all parts are.
abbrev pub invariant-loop-part : goal.invariant-loop-part
invariant-loop-part l = option_map (λ (rest : List Entry). map entry_view l.entries.items ++ rest) (list_at entry_at (trees_in l.rest)) ≡ list_at entry_at (trees_in l.parts)

abbrev pub decreases-loop-part : goal.decreases-loop-part
decreases-loop-part l = length l.rest
