use Rattle.cert_framing.proofs.Streams.{framing_is_one}
use Rattle.cert_framing.proofs.laws.one_framing.Goals as goal

pub returns : goal.returns
returns c = framing_is_one
