use Rattle.std.proofs.Common.{arith}
use Rattle.cert_framing.proofs.Fronts.{nothing_is_cut, lone_is_cut}
use Rattle.cert_framing.proofs.front.front_of.Goals as goal

pub returns-in-empty : goal.returns-in-empty
returns-in-empty c = nothing_is_cut c.args.limit c.args.octets.now (omega arith)

pub returns-in-48 : goal.returns-in-48
returns-in-48 c = lone_is_cut c.args.limit c.args.octets.now (omega arith) (omega arith)
