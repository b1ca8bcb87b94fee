use Rattle.cert_reasons.proofs.in_force.ListsInForce.new.Goals as goal

pub returns : goal.returns
returns c = record { places = rw c.moment-moment.ensures at c.in_ok-places.ensures; rows = rw c.deref.ensures.value at c.in_ok-rows.ensures }
