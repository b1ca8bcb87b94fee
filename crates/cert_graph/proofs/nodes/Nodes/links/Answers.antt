-- What `any` returns over the groups.
use Rattle.std.proofs.Common.{rules, tests}
use Rattle.std.proofs.lemmas.Iterator.{cases_from_any, YieldsList-from_slice}
use Rattle.cert_graph.specs.Nodes.{HasLink, Links}
use Rattle.cert_graph.proofs.PlacesOfNodes.{any_iff}
use Rattle.cert_graph.proofs.nodes.Nodes.links.Goals as goal

pub returns : goal.returns
unfolding Links
returns c =
    let groups = c.args.self.now.groups.items in
    any_iff (HasLink c.args.certificate c.args.issuer) c.any.result groups
    (cases_from_any _ _ _ (HasLink c.args.certificate c.args.issuer) (λ g. HasLink c.args.certificate c.args.issuer g → ⊥) c.any.ensures.ran (YieldsList-from_slice groups cc) (λ x q k. search (rules, tests)) (λ x q k. search (rules, tests)))
