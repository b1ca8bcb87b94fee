use Rattle.std.proofs.Common.{map}
use Rattle.certpath_why.specs.Found.{subject_place}
use Rattle.certpath_why.proofs.Items.{shows_subject, positions_as}
use Rattle.certpath_why.proofs.found.Found.roots.Goals as goal

pub returns : goal.returns
returns c =
    let f = c.args.self.now in
    positions_as c.positions.result.now (shows_subject f.anchors.now c.args.name.now) (c.positions.ensures (map subject_place f.anchors.now) c.requires.roots)
