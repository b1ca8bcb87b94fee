use Rattle.std.proofs.Common.{◌≡◌, length}
use Rattle.certpath_pem.specs.Lines.{lines_of}
use Rattle.certpath_pem.specs.Blocks.{has_headers}
use Rattle.certpath_pem.proofs.content.has_headers.Given as goal

abbrev pub invariant-loop-line : goal.invariant-loop-line
invariant-loop-line l = has_headers (lines_of l.rest) ≡ has_headers (lines_of l.text)

abbrev pub decreases-loop-line : goal.decreases-loop-line
decreases-loop-line l = length l.rest
