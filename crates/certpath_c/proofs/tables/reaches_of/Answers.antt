use Rattle.certpath_c.proofs.TableRows.{no_row_at}
use Rattle.certpath_c.proofs.tables.reaches_of.Goals as goal

pub returns-in_default-clause-none : goal.returns-in_default-clause-none
returns-in_default-clause-none c = no_row_at c.args.entries.now c.loop-entry.entry-index 0 c.loop-entry-test.true c.in_default.ensures.none
