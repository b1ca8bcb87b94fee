use Rattle.std.proofs.Common.{◌≡◌, ◌+◌, length, flat_map}
use Rattle.certpath_rebuild.proofs.encode.EachEncode.size.Given as goal

abbrev pub invariant-loop-part : goal.invariant-loop-part
invariant-loop-part g l = l.total + length (flat_map g.A.Encode.octets l.rest) ≡ length (flat_map g.A.Encode.octets l.self.0.now)

abbrev pub decreases-loop-part : goal.decreases-loop-part
decreases-loop-part g l = length l.rest
