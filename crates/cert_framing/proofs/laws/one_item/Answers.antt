use Rattle.cert_framing.proofs.Sequences.{one_item}
use Rattle.cert_framing.proofs.laws.one_item.Goals as goal

pub returns : goal.returns
returns c = one_item
