use Rattle.std.proofs.Common.{◌≡◌, ◌++◌, ℕ, List, length, flat_map}
use Rattle.certpath_rebuild.proofs.encode.EachEncode.before.Given as goal

-- what is taken, after what is left of both
abbrev pub invariant-loop-part : goal.invariant-loop-part
invariant-loop-part g l = (taken : List ℕ)
    × (l.whole ≡ l.front ++ taken)
    × (flat_map g.A.Encode.octets l.rest ++ taken ≡ flat_map g.A.Encode.octets l.self.0.now)

abbrev pub decreases-loop-part : goal.decreases-loop-part
decreases-loop-part g l = length l.rest
