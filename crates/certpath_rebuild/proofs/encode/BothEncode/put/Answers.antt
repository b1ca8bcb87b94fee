use Rattle.certpath_rebuild.proofs.Writing.{stopped, one_more}
use Rattle.certpath_rebuild.proofs.encode.BothEncode.put.Goals as goal

pub returns-in_err-put-clause-octets : goal.returns-in_err-put-clause-octets
returns-in_err-put-clause-octets g c =
    stopped _ _ _ _ (g.A.Encode.octets c.args.self.now.0) (g.B.Encode.octets c.args.self.now.1) _ _ c.from_residual.ensures.1 c.in_err-put.ensures.octets

pub returns-clause-octets : goal.returns-clause-octets
returns-clause-octets g c =
    one_more _ _ _ _ _ _ (g.A.Encode.octets c.args.self.now.0) (g.B.Encode.octets c.args.self.now.1) _ c.in_ok-put.ensures.octets c.put-2.ensures.octets
