-- Each part of an adequate none.
use Rattle.std.proofs.Common.{◌≡◌, List, length, refl, [], ◌∷◌, true, rules, subst}
use Rattle.cert_graph.specs.declared.reach.Reach.{Reach}
use Rattle.cert_graph.specs.Nodes.{graph_of}
use Rattle.cert_graph.proofs.GroupFacts.{anchored_iff, successor_iff}
use Rattle.cert_graph.specs.Adequate.{HasAnchored, IsSuccessor}
use Rattle.cert_graph.proofs.TableFacts.{refuted, none_iff, row_of_none}
use Rattle.cert_graph.proofs.check.is_none_by.Goals as goal

pub returns-then-not-holds_each_limit : goal.returns-then-not-holds_each_limit
returns-then-not-holds_each_limit c =
    let nodes = c.args.nodes.now in
    let row = c.args.row.now in
    refuted (λ h.
    let held = (anchored_iff nodes row).1 (subst (λ (r : List Reach). HasAnchored (graph_of nodes) r) (row_of_none (graph_of nodes) c.args.target (row ∷ []) row refl h) h.anchored) in
    let yes : c.holds_each_limit.result ≡ true = c.holds_each_limit.ensures.1 held in cc)

pub returns-then-not-follows_row : goal.returns-then-not-follows_row
returns-then-not-follows_row c =
    let nodes = c.args.nodes.now in
    let row = c.args.row.now in
    refuted (λ h.
    let follows = (successor_iff nodes row row).1 (subst (λ (r : List Reach). IsSuccessor (graph_of nodes) r r) (row_of_none (graph_of nodes) c.args.target (row ∷ []) row refl h) h.fixed) in
    let yes : c.follows_row.result ≡ true = c.follows_row.ensures.1 follows in cc)

pub returns : goal.returns
returns c =
    let nodes = c.args.nodes.now in
    let row = c.args.row.now in
    let whole : length row ≡ length nodes.items.items = search rules in
    none_iff nodes c.args.target (row ∷ []) row (c.is_certificate.ensures.0 c.if-not-is_certificate.false) refl whole
    ((anchored_iff nodes row).0 (c.holds_each_limit.ensures.0 c.if-not-holds_each_limit.false))
    ((successor_iff nodes row row).0 (c.follows_row.ensures.0 c.if-not-follows_row.false))
    c.is_closed.ensures
