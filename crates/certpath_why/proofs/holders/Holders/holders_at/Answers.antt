use Rattle.std.proofs.Common.{get_or}
use Rattle.std.proofs.lemmas.List.Elements.{Contains-get_or}
use Rattle.certpath_why.proofs.Holding.{rows_none, rows_more, rows_all}
use Rattle.certpath_why.proofs.holders.Holders.holders_at.Goals as goal

pub row_at-row-requires : goal.row_at-row-requires
row_at-row-requires c = rw c.deref.ensures.value (c.requires (get_or c.args.numbers.now c.loop-number.number-index 0) (Contains-get_or c.args.numbers.now c.loop-number.number-index 0 c.loop-number-test.true))

pub loop-number-init : goal.loop-number-init
loop-number-init c = rw c.new-found.ensures.items (rows_none c.args.self.now c.args.numbers.now)

pub loop-number-preserved : goal.loop-number-preserved
loop-number-preserved c =
    rows_more c.args.self.now c.args.numbers.now c.loop-number.number-index c.row_at-row.result.now c.loop-number.found.items c.extend_from_slice.new.self.items c.loop-number-test.true
    (c.requires (get_or c.args.numbers.now c.loop-number.number-index 0) (Contains-get_or c.args.numbers.now c.loop-number.number-index 0 c.loop-number-test.true)) (rw c.deref.ensures.value at c.row_at-row.ensures) c.loop-number.invariant c.in_ok-extend_from_slice.ensures.items

pub returns : goal.returns
returns c = rows_all c.args.self.now c.args.numbers.now c.loop-number.number-index c.loop-number.found.items c.put_in_order.new.positions.items c.loop-number-test.false c.loop-number.invariant c.in_ok-put_in_order.ensures.kept
