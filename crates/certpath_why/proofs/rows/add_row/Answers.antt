use Rattle.certpath_why.proofs.Adding.{row_none, row_more, row_all}
use Rattle.certpath_why.proofs.rows.add_row.Goals as goal

pub loop-item-init : goal.loop-item-init
loop-item-init c = row_none c.args.lists.now.items c.args.row.now c.args.added.now

pub loop-item-preserved : goal.loop-item-preserved
loop-item-preserved c = row_more c.args.lists.now.items c.loop-item.lists.items c.add_to.new.lists.items c.args.row.now c.args.added.now c.loop-item.item-index c.loop-item-test.true c.loop-item.invariant c.in_ok-add_to.ensures

pub returns : goal.returns
returns c = row_all c.args.lists.now.items c.loop-item.lists.items c.args.row.now c.args.added.now c.loop-item.item-index c.loop-item-test.false c.loop-item.invariant
