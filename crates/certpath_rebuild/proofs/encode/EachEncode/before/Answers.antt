use Rattle.std.proofs.Common.{rules, ◌≡◌, [], ◌∷◌, ◌++◌}
use Rattle.certpath_rebuild.proofs.Ends.{finds_none, no_part}
use Rattle.certpath_rebuild.proofs.encode.EachEncode.before.Goals as goal

pub returns-in_err-front : goal.returns-in_err-front
returns-in_err-front g c =
    let i = c.loop-part.invariant in
    let last : c.loop-part.rest.now ≡ c.in-Some.ahead.now ++ c.in-Some.part.now ∷ [] = search rules in
    finds_none _ _ _ c.from_residual.ensures
    (no_part g.A.Encode.octets c.args.self.now.0.now c.loop-part.rest.now c.in-Some.ahead.now c.in-Some.part.now c.args.whole.now c.loop-part.front.now i.0 i.1 i.2 last c.in_err-front.ensures)
