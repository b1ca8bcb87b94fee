-- Group by group of those that issued the item.
use Rattle.std.proofs.Common.{ℕ, ◌+◌, ◌∙◌, take, map, get_or, Vec, Global, Option, arith, sym, subst}
use Rattle.std.specs.Prelude.{Contains}
use Rattle.std.proofs.lemmas.List.{get_or_default}
use Rattle.cert_graph.specs.declared.nodes.Group.{Group}
use Rattle.cert_graph.specs.Least.{IsLeastOption}
use Rattle.cert_graph.proofs.Looking.{NamedBy, IsIssuing, issuing_of, named_within, named_more, least_anchored}
use Rattle.cert_graph.proofs.lookup.Lookup.least_anchor.Goals as goal

pub index-requires : goal.index-requires
index-requires c =
    let nodes = c.args.nodes.now in
    let numbers = c.issuing-group-items.result.now in
    let issuing = subst (IsIssuing nodes c.args.position) (sym c.issuing-group-items.ensures) (issuing_of nodes (map (λ (l : Vec ℕ Global). l.items) c.args.self.now.groups.items) c.args.position c.requires) in
    let within = named_within nodes numbers c.args.position c.loop-group.group-index issuing c.loop-group-test.true in
    omega (arith, within)

pub loop-group-preserved : goal.loop-group-preserved
loop-group-preserved c =
    let nodes = c.args.nodes.now in
    let groups = nodes.groups.items in
    let numbers = c.issuing-group-items.result.now in
    let i = c.loop-group.group-index in
    let x = get_or numbers i 0 in
    let issuing = subst (IsIssuing nodes c.args.position) (sym c.issuing-group-items.ensures) (issuing_of nodes (map (λ (l : Vec ℕ Global). l.items) c.args.self.now.groups.items) c.args.position c.requires) in
    let within = named_within nodes numbers c.args.position i issuing c.loop-group-test.true in
    subst (λ (o : Option ℕ). IsLeastOption (λ a. NamedBy (λ g. g.anchors.items) groups (take (i + 1) numbers) a × Unit {0}) o) (sym c.lower-least.ensures)
    (named_more (λ g. g.anchors.items) (λ a. Unit {0}) groups numbers i c.loop-group.least c.first_anchor.result c.loop-group-test.true within c.loop-group.invariant
    (λ own. subst (λ (group : Group). IsLeastOption (λ a. Contains group.anchors.items a × Unit {0}) c.first_anchor.result) (c.index.ensures ∙ get_or_default groups x c.index.result.now own within) c.first_anchor.ensures))

pub returns : goal.returns
returns c =
    let nodes = c.args.nodes.now in
    let issuing = subst (IsIssuing nodes c.args.position) (sym c.issuing-group-items.ensures) (issuing_of nodes (map (λ (l : Vec ℕ Global). l.items) c.args.self.now.groups.items) c.args.position c.requires) in
    least_anchored nodes c.issuing-group-items.result.now c.args.position c.loop-group.group-index c.loop-group.least issuing c.loop-group-test.false c.loop-group.invariant
