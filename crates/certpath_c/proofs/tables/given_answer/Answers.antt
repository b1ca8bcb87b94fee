use Rattle.certpath_c.proofs.NoAnswers.{no_table}
use Rattle.certpath_c.proofs.tables.given_answer.Goals as goal

pub returns-in_default-clause-none : goal.returns-in_default-clause-none
returns-in_default-clause-none c = no_table c.args.width c.args.row.now c.args.positions.now c.args.entries.now (rw c.in_default.is at c.in_ok-table.ensures.none)
