use Rattle.cert_reasons.specs.Listed.{IsInForceAt, HasSerialAt}
use Rattle.cert_reasons.proofs.Listing.{among_places}
use Rattle.cert_reasons.proofs.listed.listed_among.Goals as goal

pub with_serial-requires : goal.with_serial-requires
with_serial-requires c = rw c.deref.ensures.value (c.in_ok-in_force.ensures.ascends)

pub returns : goal.returns
returns c =
    let xs = c.args.items.now in
    record {
      in_force = c.in_ok-in_force.ensures;
      revoking = among_places (IsInForceAt xs c.args.moment.now c.args.name.now) (HasSerialAt xs c.args.serial.now) c.in_ok-in_force.in_force.items c.in_ok-revoking.revoking.items c.in_ok-in_force.ensures
          (rw c.deref.ensures.value at c.in_ok-revoking.ensures);
    }
