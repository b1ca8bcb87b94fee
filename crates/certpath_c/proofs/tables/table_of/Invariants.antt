use Rattle.std.proofs.Common.{length, map}
use Rattle.certpath_c.proofs.TableRows.{TableSoFar}
use Rattle.certpath_c.proofs.tables.table_of.Given as goal

abbrev pub invariant-loop-rest : goal.invariant-loop-rest
invariant-loop-rest l = TableSoFar l.width l.entries l.rest (map (λ r. r.items) l.rows.items)

abbrev pub decreases-loop-rest : goal.decreases-loop-rest
decreases-loop-rest l = length l.rest
