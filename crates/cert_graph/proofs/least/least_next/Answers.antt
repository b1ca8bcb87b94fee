use Rattle.std.proofs.Common.{ℕ, ◌+◌, ◌∙◌, sym, subst, take, List, Option}
use Rattle.cert_graph.specs.declared.nodes.Group.{Group}
use Rattle.cert_graph.specs.Nodes.{graph_of}
use Rattle.cert_graph.specs.Steps.{MayTake}
use Rattle.cert_graph.specs.Least.{IsOpen, IsLeastOption}
use Rattle.cert_graph.proofs.Lowest.{LinksBy, linked_more, unlinked_more, linked_all, least_same, members_linked}
use Rattle.cert_graph.proofs.least.least_next.Goals as goal
use Rattle.cert_graph.proofs.least.least_next.Goals.{then-has_issued, else-has_issued}

pub loop-group-preserved : goal.loop-group-preserved
loop-group-preserved c = elim c.if-has_issued.branch [
  | then-has_issued w ↦
      subst (λ (o : Option ℕ). IsLeastOption (λ v. LinksBy (λ g. g.members.items) (take (c.loop-group.group-index + 1) c.deref-group-items.result.now) c.args.position v × IsOpen (graph_of c.args.nodes.now) c.args.row.now c.args.count v) o)
      (sym (w.least-is ∙ w.lower-least.ensures))
      (linked_more (λ g. g.members.items) (IsOpen (graph_of c.args.nodes.now) c.args.row.now c.args.count) c.deref-group-items.result.now c.loop-group.group-index c.group-item.result c.args.position c.loop-group.least w.least_open.result
      c.loop-group-test.true c.group-item.is (c.has_issued.ensures.0 w.if-has_issued.true) c.loop-group.invariant w.least_open.ensures)
  | else-has_issued w ↦
      subst (λ (o : Option ℕ). IsLeastOption (λ v. LinksBy (λ g. g.members.items) (take (c.loop-group.group-index + 1) c.deref-group-items.result.now) c.args.position v × IsOpen (graph_of c.args.nodes.now) c.args.row.now c.args.count v) o)
      (sym w.least-is)
      (unlinked_more (λ g. g.members.items) (IsOpen (graph_of c.args.nodes.now) c.args.row.now c.args.count) c.deref-group-items.result.now c.loop-group.group-index c.group-item.result c.args.position c.loop-group.least
      c.loop-group-test.true c.group-item.is (λ h. cc (w.if-has_issued.false, c.has_issued.ensures.1 h)) c.loop-group.invariant)
]

pub returns : goal.returns
returns c =
    least_same (λ v. LinksBy (λ g. g.members.items) c.args.nodes.now.groups.items c.args.position v × IsOpen (graph_of c.args.nodes.now) c.args.row.now c.args.count v)
    (MayTake (graph_of c.args.nodes.now) c.args.row.now c.args.position c.args.count) c.loop-group.least
    (λ v. let m = members_linked c.args.nodes.now c.args.position v in (λ h. (h.1.0, m.0 h.0, h.1.1), λ h. (m.1 h.1, (h.0, h.2))))
    (subst (λ (gs : List Group). IsLeastOption (λ v. LinksBy (λ g. g.members.items) gs c.args.position v × IsOpen (graph_of c.args.nodes.now) c.args.row.now c.args.count v) c.loop-group.least) c.deref-group-items.ensures.value
    (linked_all (λ g. g.members.items) (IsOpen (graph_of c.args.nodes.now) c.args.row.now c.args.count) c.deref-group-items.result.now c.loop-group.group-index c.args.position c.loop-group.least c.loop-group-test.false c.loop-group.invariant))
