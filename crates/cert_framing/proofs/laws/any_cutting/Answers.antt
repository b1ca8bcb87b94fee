use Rattle.cert_framing.proofs.Streams.{same_pieces}
use Rattle.cert_framing.proofs.laws.any_cutting.Goals as goal

pub returns : goal.returns
returns c = same_pieces
