use Rattle.std.proofs.Common.{◌≡◌, ◌++◌, ℕ, List, length, flat_map, Ok}
use Rattle.certpath_rebuild.specs.Puts.{Puts}
use Rattle.certpath_rebuild.proofs.encode.EachEncode.put.Given as goal

abbrev pub invariant-loop-part : goal.invariant-loop-part
invariant-loop-part g l = (done : List ℕ)
    × Puts (g.S.Sink.contents l.fn.writer) (g.S.Sink.contents l.writer) (g.S.Sink.failures l.fn.writer) (g.S.Sink.failures l.writer) done (Ok tt)
    × (g.S.Sink.flushes l.writer ≡ g.S.Sink.flushes l.fn.writer)
    × (done ++ flat_map g.A.Encode.octets l.rest ≡ flat_map g.A.Encode.octets l.self.0.now)

abbrev pub decreases-loop-part : goal.decreases-loop-part
decreases-loop-part g l = length l.rest
