use Rattle.std.proofs.Common.{get_or}
use Rattle.std.proofs.lemmas.List.Elements.{Contains-get_or}
use Rattle.certpath_why.proofs.Holding.{first_none, first_more, first_whole}
use Rattle.certpath_why.proofs.holders.Holders.members_of.Goals as goal

pub add_named-requires : goal.add_named-requires
add_named-requires c = c.requires (get_or c.args.row.now c.loop-holder.holder-index 0) (Contains-get_or c.args.row.now c.loop-holder.holder-index 0 c.loop-holder-test.true)

pub loop-holder-init : goal.loop-holder-init
loop-holder-init c = rw c.new-found.ensures.items (first_none c.args.self.now c.args.row.now c.args.name.now)

pub loop-holder-preserved : goal.loop-holder-preserved
loop-holder-preserved c = first_more c.args.self.now c.args.row.now c.args.name.now c.loop-holder.holder-index c.loop-holder.found.items c.add_named.new.found.items c.loop-holder-test.true c.loop-holder.invariant c.in_ok-add_named.ensures

pub returns : goal.returns
returns c = record {
  ascends = c.in_ok-put_in_order.ensures.ascend;
  exact = first_whole c.args.self.now c.args.row.now c.args.name.now c.loop-holder.holder-index c.loop-holder.found.items c.put_in_order.new.positions.items c.loop-holder-test.false c.loop-holder.invariant c.in_ok-put_in_order.ensures.kept;
}
