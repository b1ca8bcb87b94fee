use Rattle.std.proofs.Common.{◌≡◌, ◌-◌, ◌≤◌, length, ℕ}
use Rattle.certpath_files.specs.Rows.{added}
use Rattle.certpath_files.specs.ReportViews.{held_in}
use Rattle.certpath_files.specs.Fronts.{front_of}
use Rattle.certpath_files.specs.Walks.{walk}
use Rattle.certpath_files.specs.Sequences.{rows_at, stream_rows}
use Rattle.certpath_files.proofs.sequences.take_stream.Given as goal

-- (the number of an element plays no part in its rows)
abbrev pub invariant-loop-rest : goal.invariant-loop-rest
invariant-loop-rest l = (number : ℕ)
    × ((added (held_in l.report) (walk front_of rows_at 0 (length l.octets - length l.rest) number l.rest) ≡ added (held_in l.fn.report) (stream_rows l.octets))
    × (length l.rest ≤ length l.octets))

abbrev pub decreases-loop-rest : goal.decreases-loop-rest
decreases-loop-rest l = length l.rest
