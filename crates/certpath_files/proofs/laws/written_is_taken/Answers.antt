use Rattle.std.proofs.Common.{codes, refl}
use Rattle.certpath_files.proofs.WrittenFacts.{some_octets, taken}
use Rattle.certpath_files.proofs.laws.written_is_taken.Goals as goal

pub returns : goal.returns
returns c = λ octets kind bytes it shape. taken octets kind it shape (c.written_is_read_back.ensures (codes "CERTIFICATE") octets refl bytes (some_octets octets kind shape))
