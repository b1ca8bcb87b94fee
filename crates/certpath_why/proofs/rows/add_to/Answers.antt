use Rattle.std.proofs.Common.{rules, ◌<◌, length}
use Rattle.certpath_why.proofs.Adding.{adds_past, adds_set}
use Rattle.certpath_why.proofs.rows.add_to.Goals as goal

pub returns-then-item-len : goal.returns-then-item-len
returns-then-item-len c = adds_past c.args.lists.now.items c.args.item c.args.added.now (search rules)

pub returns : goal.returns
returns c =
    let within : c.args.item < length c.args.lists.now.items = search rules in
    adds_set c.args.lists.now.items c.args.item c.args.added.now c.index_mut-list.result.now c.extend_from_slice.new.self within c.index_mut-list.ensures.value c.in_ok-extend_from_slice.ensures.items
