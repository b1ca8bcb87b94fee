use Rattle.std.proofs.Common.{map}
use Rattle.cert_judge.specs.Items.{item_of}
use Rattle.certpath_why.proofs.Items.{positions_as}
use Rattle.certpath_why.proofs.Spreading.{further_iff}
use Rattle.certpath_why.proofs.reached.further_than.Goals as goal

pub returns : goal.returns
returns c =
    positions_as c.in_ok-further.further.items (further_iff (map item_of c.args.found.now.items.now) c.in_ok-reached.reached.items c.args.target c.in_ok-reached.ensures)
    (rw c.deref.ensures.value at c.in_ok-further.ensures)
