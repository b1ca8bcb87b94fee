use Rattle.std.proofs.Common.{map}
use Rattle.certpath_why.specs.Named.{id_place}
use Rattle.certpath_why.proofs.Items.{positions_as}
use Rattle.certpath_why.proofs.Naming.{with_id_iff}
use Rattle.certpath_why.proofs.named.Issuers.with_id.Goals as goal

pub returns-clause-exact : goal.returns-clause-exact
returns-clause-exact c = λ items directory.
    let places = c.args.self.now.places.items in
    let numbers = c.positions-numbers.result.now in
    positions_as c.in_ok-found.found.items (with_id_iff items places numbers c.args.id.now (c.positions-numbers.ensures (map (id_place items) places) directory)) (rw c.deref.ensures.value at c.in_ok-found.ensures)
