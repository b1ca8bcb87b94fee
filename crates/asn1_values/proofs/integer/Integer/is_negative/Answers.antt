use Rattle.asn1_values.proofs.Signs.{sign_is}
use Rattle.asn1_values.proofs.integer.Integer.is_negative.Goals as goal

pub returns : goal.returns
returns c = rw c.is_negative.ensures (sign_is c.args.self.now.content.now)
