-- What `any` returns over the groups is what the graph says.
use Rattle.std.proofs.Common.{rules, tests}
use Rattle.std.proofs.lemmas.Iterator.{cases_from_any, YieldsList-from_slice}
use Rattle.cert_graph.specs.Groups.{HasAnchorBelow}
use Rattle.cert_graph.proofs.PlacesOfNodes.{any_iff, both}
use Rattle.cert_graph.proofs.GroupFacts.{anchor_below}
use Rattle.cert_graph.proofs.nodes.Nodes.has_anchor_below.Goals as goal

pub returns : goal.returns
returns c =
    let groups = c.args.self.now.groups.items in
    both
    (any_iff (HasAnchorBelow c.args.certificate c.args.bound) c.any.result groups
    (cases_from_any _ _ _ (HasAnchorBelow c.args.certificate c.args.bound) (λ g. HasAnchorBelow c.args.certificate c.args.bound g → ⊥) c.any.ensures.ran (YieldsList-from_slice groups cc) (λ x q k. search (rules, tests)) (λ x q k. search (rules, tests))))
    (anchor_below c.args.self.now c.args.certificate c.args.bound)
