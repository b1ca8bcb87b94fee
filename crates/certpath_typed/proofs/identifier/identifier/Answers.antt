use Rattle.certpath_typed.proofs.Places.{lent}
use Rattle.certpath_typed.proofs.identifier.identifier.Goals as goal

pub returns-in-Some : goal.returns-in-Some
returns-in-Some c = rw c.in-Some.ensures (lent c.args.item.now c.args.oid.now)
