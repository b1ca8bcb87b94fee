use Rattle.certpath_why.proofs.Issued.{held_found}
use Rattle.certpath_why.proofs.by_issuer.ListsByIssuer.of.Goals as goal

pub returns : goal.returns
returns c = λ xs moment h. held_found xs moment c.args.self.now.by_name c.args.name c.get.result c.get.ensures.value h
