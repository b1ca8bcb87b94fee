use Rattle.certpath_why.proofs.Holding.{rows_holder, rows_named}
use Rattle.certpath_why.proofs.Items.{positions_as}
use Rattle.certpath_why.proofs.holders.Holders.positions_of_any.Goals as goal

pub members_of-requires : goal.members_of-requires
members_of-requires c = rw c.deref.ensures.value (rows_holder c.args.self.now c.args.numbers.now c.in_ok-row.row.items c.requires.numbers c.requires.within c.in_ok-row.ensures)

pub returns : goal.returns
returns c = positions_as c.in_ok-found.found.items (rows_named c.args.self.now c.args.numbers.now c.in_ok-row.row.items c.args.name.now c.in_ok-row.ensures) (rw c.deref.ensures.value at c.in_ok-found.ensures)
