use Rattle.std.proofs.Common.{arith}
use Rattle.cert_framing.proofs.Fronts.{short_is_cut, short_front_whole}
use Rattle.cert_framing.proofs.front.short_front.Goals as goal

pub returns-then-rest-size : goal.returns-then-rest-size
returns-then-rest-size c = short_is_cut c.args.limit c.args.size c.args.rest.now c.requires (omega arith) (omega arith)

pub returns-else-rest-size : goal.returns-else-rest-size
returns-else-rest-size c = (
  omega arith,
  omega arith,
  rw c.from-size.ensures (short_front_whole c.args.limit c.args.size c.args.rest.now c.requires (omega arith) (omega arith)),
)
