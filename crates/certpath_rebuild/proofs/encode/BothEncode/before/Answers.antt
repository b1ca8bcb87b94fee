use Rattle.certpath_rebuild.proofs.Ends.{no_last, finds_none, finds_both}
use Rattle.certpath_rebuild.proofs.encode.BothEncode.before.Goals as goal

pub returns-in_err-front : goal.returns-in_err-front
returns-in_err-front g c =
    let b = c.args.self.now in
    finds_none _ _ _ c.from_residual.ensures (no_last c.args.whole.now (g.A.Encode.octets b.0) (g.B.Encode.octets b.1) c.in_err-front.ensures)

pub returns : goal.returns
returns g c =
    let b = c.args.self.now in
    finds_both c.args.whole.now _ (g.A.Encode.octets b.0) (g.B.Encode.octets b.1) _ c.in_ok-front.ensures c.before-3.ensures
