use Rattle.certpath_c.proofs.LeftRows.{LeftSoFar}
use Rattle.certpath_c.proofs.loading.left_rows.Given as goal

abbrev pub invariant-loop-row : goal.invariant-loop-row
invariant-loop-row l = LeftSoFar l.rows l.left.items l.before l.row-index
