-- Group by group of those that issued the item.
use Rattle.std.proofs.Common.{ℕ, ◌+◌, take, map, Vec, Global, Option, sym, subst}
use Rattle.cert_graph.specs.Adequate.{row_of}
use Rattle.cert_graph.specs.Least.{IsOpen, IsLeastOption}
use Rattle.cert_graph.specs.Nodes.{graph_of}
use Rattle.cert_graph.proofs.Looking.{NamedBy, IsIssuing, issuing_of, named_within, named_more, least_named}
use Rattle.cert_graph.proofs.lookup.Lookup.least_next.Goals as goal

pub loop-group-preserved : goal.loop-group-preserved
loop-group-preserved c = λ nodes rows h row.
    let numbers = c.issuing-group-items.result.now in
    let i = c.loop-group.group-index in
    let issuing = subst (IsIssuing nodes c.args.position) (sym c.issuing-group-items.ensures) (issuing_of nodes (map (λ (l : Vec ℕ Global). l.items) c.args.self.now.groups.items) c.args.position h.index) in
    let within = named_within nodes numbers c.args.position i issuing c.loop-group-test.true in
    subst (λ (o : Option ℕ). IsLeastOption (λ w. NamedBy (λ g. g.members.items) nodes.groups.items (take (i + 1) numbers) w × IsOpen (graph_of nodes) (row_of rows c.args.row) c.args.count w) o) (sym c.lower-least.ensures)
    (named_more (λ g. g.members.items) (IsOpen (graph_of nodes) (row_of rows c.args.row) c.args.count) nodes.groups.items numbers i c.loop-group.least c.least_of.result c.loop-group-test.true within
    (c.loop-group.invariant nodes rows h row) (λ own. c.least_of.ensures nodes rows own h within row))

pub returns : goal.returns
returns c = λ nodes rows h row.
    let issuing = subst (IsIssuing nodes c.args.position) (sym c.issuing-group-items.ensures) (issuing_of nodes (map (λ (l : Vec ℕ Global). l.items) c.args.self.now.groups.items) c.args.position h.index) in
    least_named nodes (row_of rows c.args.row) c.issuing-group-items.result.now c.args.position c.args.count c.loop-group.group-index c.loop-group.least issuing c.loop-group-test.false (c.loop-group.invariant nodes rows h row)
