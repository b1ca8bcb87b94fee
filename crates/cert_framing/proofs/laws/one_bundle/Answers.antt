use Rattle.cert_framing.proofs.Streams.{held_is_one}
use Rattle.cert_framing.proofs.laws.one_bundle.Goals as goal

pub returns : goal.returns
returns c = held_is_one
