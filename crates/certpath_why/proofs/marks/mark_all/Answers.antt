use Rattle.std.proofs.Common.{get_or, arith}
use Rattle.std.proofs.lemmas.List.Elements.{Contains-get_or}
use Rattle.certpath_why.proofs.Bounding.{all_none, all_more, all_whole}
use Rattle.certpath_why.proofs.marks.mark_all.Goals as goal

pub loop-place-init : goal.loop-place-init
loop-place-init c = all_none c.args.places.now c.args.marks.now.items

pub put_mark-requires : goal.put_mark-requires
put_mark-requires c =
    let lt = c.requires (get_or c.args.places.now c.loop-place.place-index 0) (Contains-get_or c.args.places.now c.loop-place.place-index 0 c.loop-place-test.true) in
    let count = c.loop-place.invariant.count in
    omega arith

pub loop-place-preserved : goal.loop-place-preserved
loop-place-preserved c = all_more c.args.places.now c.loop-place.place-index c.args.marks.now.items c.loop-place.marks.items c.put_mark.new.marks.items c.loop-place-test.true c.loop-place.invariant c.put_mark.ensures.count c.put_mark.ensures.exact

pub returns : goal.returns
returns c = all_whole c.args.places.now c.loop-place.place-index c.args.marks.now.items c.loop-place.marks.items c.loop-place-test.false c.loop-place.invariant
