use Rattle.certpath_why.proofs.Holding.{first_row, row_holder}
use Rattle.certpath_why.proofs.Items.{positions_as}
use Rattle.certpath_why.proofs.holders.Holders.positions.Goals as goal

pub members_of-requires : goal.members_of-requires
members_of-requires c = row_holder c.args.self.now c.args.number c.row_at-row.result.now c.requires.number (rw c.deref.ensures.value at c.row_at-row.ensures) c.requires.within

pub returns : goal.returns
returns c = positions_as c.in_ok-found.found.items (first_row c.args.self.now c.args.number c.row_at-row.result.now c.args.name.now c.requires.number (rw c.deref.ensures.value at c.row_at-row.ensures)) c.in_ok-found.ensures
