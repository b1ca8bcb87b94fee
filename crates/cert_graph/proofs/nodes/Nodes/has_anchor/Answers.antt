-- What `any` returns over the groups is what the graph says.
use Rattle.std.proofs.Common.{rules, tests}
use Rattle.std.proofs.lemmas.Iterator.{cases_from_any, YieldsList-from_slice}
use Rattle.cert_graph.specs.Groups.{HasSomeAnchor}
use Rattle.cert_graph.proofs.PlacesOfNodes.{any_iff, both}
use Rattle.cert_graph.proofs.GroupFacts.{anchor_some}
use Rattle.cert_graph.proofs.nodes.Nodes.has_anchor.Goals as goal

pub returns : goal.returns
returns c =
    let groups = c.args.self.now.groups.items in
    both
    (any_iff (HasSomeAnchor c.args.certificate) c.any.result groups
    (cases_from_any _ _ _ (HasSomeAnchor c.args.certificate) (λ g. HasSomeAnchor c.args.certificate g → ⊥) c.any.ensures.ran (YieldsList-from_slice groups cc) (λ x q k. search (rules, tests)) (λ x q k. search (rules, tests))))
    (anchor_some c.args.self.now c.args.certificate)
