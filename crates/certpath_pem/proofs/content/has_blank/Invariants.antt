use Rattle.std.proofs.Common.{◌≡◌, length}
use Rattle.std.specs.List.{list_any}
use Rattle.certpath_pem.specs.Lines.{lines_of}
use Rattle.certpath_pem.specs.Blocks.{is_blank}
use Rattle.certpath_pem.proofs.content.has_blank.Given as goal

abbrev pub invariant-loop-line : goal.invariant-loop-line
invariant-loop-line l = list_any is_blank (lines_of l.rest) ≡ list_any is_blank (lines_of l.text)

abbrev pub decreases-loop-line : goal.decreases-loop-line
decreases-loop-line l = length l.rest
