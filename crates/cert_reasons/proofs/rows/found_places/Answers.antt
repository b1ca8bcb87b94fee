use Rattle.cert_reasons.proofs.Rowed.{forward}
use Rattle.cert_reasons.proofs.rows.found_places.Goals as goal

pub range-requires : goal.range-requires
range-requires c = rw (c.new.ensures.start, c.new.ensures.end) (forward c.args.serial.now 0xffff_ffff_ffff_ffff)
