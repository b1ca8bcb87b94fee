-- Group by group of those that issued the item.
use Rattle.std.proofs.Common.{◌≡◌, ℕ, map, true, Vec, Global, arith, sym, subst}
use Rattle.cert_graph.proofs.Looking.{IsIssuing, issuing_of, named_within, named_linked, named_here, named_past, named_nowhere}
use Rattle.cert_graph.proofs.Lowest.{members_linked}
use Rattle.cert_graph.proofs.TableFacts.{refuted, granted}
use Rattle.cert_graph.proofs.lookup.Lookup.links.Goals as goal

pub index-requires : goal.index-requires
index-requires c =
    let nodes = c.args.nodes.now in
    let numbers = c.issuing-group-items.result.now in
    let issuing = subst (IsIssuing nodes c.args.certificate) (sym c.issuing-group-items.ensures) (issuing_of nodes (map (λ (l : Vec ℕ Global). l.items) c.args.self.now.groups.items) c.args.certificate c.requires) in
    let within = named_within nodes numbers c.args.certificate c.loop-group.group-index issuing c.loop-group-test.true in
    omega (arith, within)

pub returns-then-has_member : goal.returns-then-has_member
returns-then-has_member c =
    let nodes = c.args.nodes.now in
    let numbers = c.issuing-group-items.result.now in
    let v = c.args.certificate in
    let i = c.loop-group.group-index in
    let issuing = subst (IsIssuing nodes v) (sym c.issuing-group-items.ensures) (issuing_of nodes (map (λ (l : Vec ℕ Global). l.items) c.args.self.now.groups.items) v c.requires) in
    let within = named_within nodes numbers v i issuing c.loop-group-test.true in
    granted ((members_linked nodes v c.args.issuer).0 ((named_linked (λ g. g.members.items) nodes numbers v c.args.issuer issuing).0
    (named_here (λ g. g.members.items) nodes.groups.items numbers i c.args.issuer c.index.result.now c.loop-group-test.true within c.index.ensures (c.has_member.ensures.0 c.if-has_member.true))))

pub loop-group-preserved : goal.loop-group-preserved
loop-group-preserved c =
    let nodes = c.args.nodes.now in
    named_past (λ g. g.members.items) nodes.groups.items c.issuing-group-items.result.now c.loop-group.group-index c.args.issuer c.index.result.now c.loop-group-test.true c.index.ensures c.loop-group.invariant
    (λ x. let yes : c.has_member.result ≡ true = c.has_member.ensures.1 x in cc)

pub returns : goal.returns
returns c =
    let nodes = c.args.nodes.now in
    let numbers = c.issuing-group-items.result.now in
    let v = c.args.certificate in
    let issuing = subst (IsIssuing nodes v) (sym c.issuing-group-items.ensures) (issuing_of nodes (map (λ (l : Vec ℕ Global). l.items) c.args.self.now.groups.items) v c.requires) in
    refuted (λ edge. named_nowhere (λ g. g.members.items) nodes numbers v c.args.issuer c.loop-group.group-index issuing c.loop-group-test.false c.loop-group.invariant ((members_linked nodes v c.args.issuer).1 edge))
