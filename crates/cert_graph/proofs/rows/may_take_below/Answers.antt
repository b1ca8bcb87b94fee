-- What `any` returns over the groups.
use Rattle.std.proofs.Common.{rules, tests}
use Rattle.std.proofs.lemmas.Iterator.{cases_from_any, YieldsList-from_slice}
use Rattle.cert_graph.specs.Groups.{HasOpenBelow}
use Rattle.cert_graph.proofs.PlacesOfNodes.{any_iff}
use Rattle.cert_graph.proofs.rows.may_take_below.Goals as goal

pub returns : goal.returns
returns c =
    let groups = c.args.nodes.now.groups.items in
    any_iff (HasOpenBelow c.args.nodes.now c.args.row.now c.args.certificate c.args.count c.args.bound) c.any.result groups
    (cases_from_any _ _ _ (HasOpenBelow c.args.nodes.now c.args.row.now c.args.certificate c.args.count c.args.bound) (λ g. HasOpenBelow c.args.nodes.now c.args.row.now c.args.certificate c.args.count c.args.bound g → ⊥) c.any.ensures.ran (YieldsList-from_slice groups cc) (λ x q k. search (rules, tests)) (λ x q k. search (rules, tests)))
