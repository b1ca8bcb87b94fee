-- What `any` returns over the groups.
use Rattle.std.proofs.Common.{rules, tests}
use Rattle.std.proofs.lemmas.Iterator.{cases_from_any, YieldsList-from_slice}
use Rattle.cert_graph.specs.Nodes.{HasAnchorLink, LinksToAnchor}
use Rattle.cert_graph.proofs.PlacesOfNodes.{any_iff}
use Rattle.cert_graph.proofs.nodes.Nodes.links_to_anchor.Goals as goal

pub returns : goal.returns
unfolding LinksToAnchor
returns c =
    let groups = c.args.self.now.groups.items in
    any_iff (HasAnchorLink c.args.certificate c.args.anchor) c.any.result groups
    (cases_from_any _ _ _ (HasAnchorLink c.args.certificate c.args.anchor) (λ g. HasAnchorLink c.args.certificate c.args.anchor g → ⊥) c.any.ensures.ran (YieldsList-from_slice groups cc) (λ x q k. search (rules, tests)) (λ x q k. search (rules, tests)))
