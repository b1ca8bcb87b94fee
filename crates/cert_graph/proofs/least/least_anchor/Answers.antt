use Rattle.std.proofs.Common.{ℕ, ◌+◌, ◌∙◌, sym, subst, take, List, Option}
use Rattle.cert_graph.specs.declared.nodes.Group.{Group}
use Rattle.cert_graph.specs.Nodes.{LinksToAnchor}
use Rattle.cert_graph.specs.Least.{IsLeastOption}
use Rattle.cert_graph.proofs.Lowest.{LinksBy, linked_more, unlinked_more, linked_all, least_same, anchors_linked}
use Rattle.cert_graph.proofs.least.least_anchor.Goals as goal
use Rattle.cert_graph.proofs.least.least_anchor.Goals.{then-has_issued, else-has_issued}

pub loop-group-preserved : goal.loop-group-preserved
loop-group-preserved c = elim c.if-has_issued.branch [
  | then-has_issued w ↦
      subst (λ (o : Option ℕ). IsLeastOption (λ a. LinksBy (λ g. g.anchors.items) (take (c.loop-group.group-index + 1) c.deref-group-items.result.now) c.args.position a × Unit {0}) o)
      (sym (w.least-is ∙ w.lower-least.ensures))
      (linked_more (λ g. g.anchors.items) (λ a. Unit {0}) c.deref-group-items.result.now c.loop-group.group-index c.group-item.result c.args.position c.loop-group.least w.first_anchor.result
      c.loop-group-test.true c.group-item.is (c.has_issued.ensures.0 w.if-has_issued.true) c.loop-group.invariant w.first_anchor.ensures)
  | else-has_issued w ↦
      subst (λ (o : Option ℕ). IsLeastOption (λ a. LinksBy (λ g. g.anchors.items) (take (c.loop-group.group-index + 1) c.deref-group-items.result.now) c.args.position a × Unit {0}) o)
      (sym w.least-is)
      (unlinked_more (λ g. g.anchors.items) (λ a. Unit {0}) c.deref-group-items.result.now c.loop-group.group-index c.group-item.result c.args.position c.loop-group.least
      c.loop-group-test.true c.group-item.is (λ h. cc (w.if-has_issued.false, c.has_issued.ensures.1 h)) c.loop-group.invariant)
]

pub returns : goal.returns
returns c =
    least_same (λ a. LinksBy (λ g. g.anchors.items) c.args.nodes.now.groups.items c.args.position a × Unit {0})
    (LinksToAnchor c.args.nodes.now c.args.position) c.loop-group.least
    (λ a. let m = anchors_linked c.args.nodes.now c.args.position a in (λ h. m.0 h.0, λ h. (m.1 h, tt)))
    (subst (λ (gs : List Group). IsLeastOption (λ a. LinksBy (λ g. g.anchors.items) gs c.args.position a × Unit {0}) c.loop-group.least) c.deref-group-items.ensures.value
    (linked_all (λ g. g.anchors.items) (λ a. Unit {0}) c.deref-group-items.result.now c.loop-group.group-index c.args.position c.loop-group.least c.loop-group-test.false c.loop-group.invariant))
