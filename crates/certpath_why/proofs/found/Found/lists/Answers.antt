use Rattle.std.proofs.Common.{map}
use Rattle.certpath_why.specs.Found.{list_place}
use Rattle.certpath_why.proofs.Items.{shows_list, positions_as}
use Rattle.certpath_why.proofs.found.Found.lists.Goals as goal

pub returns : goal.returns
returns c =
    let f = c.args.self.now in
    positions_as c.positions.result.now (shows_list f.items.now c.args.name.now) (c.positions.ensures (map list_place f.items.now) c.requires.lists)
