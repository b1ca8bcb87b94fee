use Rattle.std.proofs.Common.{◌≤◌, length, arith}
use Rattle.cert_reasons.proofs.Rowing.{revoking_places}
use Rattle.cert_reasons.proofs.in_force.ListsInForce.revoking.Goals as goal

pub returns : goal.returns
returns c =
    let long : length c.args._items.now ≤ 0xffff_ffff_ffff_ffff = omega arith in
    λ moment name h. revoking_places c.args._items.now moment name c.args.serial.now c.args.self.now 0xffff_ffff_ffff_ffff c.in_ok-found.found.items long h c.in_ok-found.ensures.ascends c.in_ok-found.ensures.sound c.in_ok-found.ensures.complete
