use Rattle.certpath_why.proofs.Naming.{held_found}
use Rattle.certpath_why.proofs.named.IssuersByName.of.Goals as goal

pub returns : goal.returns
returns c = λ items h. held_found items c.args.self.now.by_name c.args.name c.get.result c.get.ensures.value h
