-- The groups of one change more.
use Rattle.std.proofs.Common.{◌≡◌, ℕ, List, get_or, map, Vec, Global, true, sym, subst}
use Rattle.std.proofs.lemmas.List.{take_all}
use Rattle.cert_graph.specs.declared.reach.Reach.TheVariants.{No}
use Rattle.cert_graph.specs.declared.changes.Change.{Change}
use Rattle.cert_graph.specs.Changes.{touched}
use Rattle.cert_graph.specs.Groups.{FollowsAt}
use Rattle.cert_graph.proofs.Following.{follows_none, follows_change, change_refused, within_list}
use Rattle.cert_graph.proofs.TableFacts.{refuted, granted}
use Rattle.cert_graph.proofs.standing.follows_some.Goals as goal

pub loop-change-init : goal.loop-change-init
loop-change-init c = follows_none c.args.nodes.now c.args.before.now c.args.row.now

pub follows_at-requires : goal.follows_at-requires
follows_at-requires c =
    let x = get_or c.args.changes.now c.loop-change.change-index (record { position = 0; reach = No }) in
    within_list c.args.nodes.now c.args.places.now x.position c.places_at-own.result.now c.places_at-own.ensures c.requires

pub loop-change-preserved : goal.loop-change-preserved
loop-change-preserved c =
    let d : Change = record { position = 0; reach = No } in
    let lists = map (λ (l : Vec ℕ Global). l.items) c.args.places.now in
    follows_change c.args.nodes.now c.args.before.now c.args.row.now lists c.args.changes.now c.loop-change.change-index d c.loop-change-test.true
    (subst (FollowsAt c.args.nodes.now c.args.before.now c.args.row.now) c.places_at-own.ensures (c.follows_at.ensures.0 c.if-not-follows_at.false)) c.loop-change.invariant

pub returns-then-not-follows_at : goal.returns-then-not-follows_at
returns-then-not-follows_at c =
    let d : Change = record { position = 0; reach = No } in
    let lists = map (λ (l : Vec ℕ Global). l.items) c.args.places.now in
    refuted (λ h. change_refused c.args.nodes.now c.args.before.now c.args.row.now lists c.args.changes.now c.loop-change.change-index d c.loop-change-test.true
    (λ f. let yes : c.follows_at.result ≡ true = c.follows_at.ensures.1 (subst (FollowsAt c.args.nodes.now c.args.before.now c.args.row.now) (sym c.places_at-own.ensures) f) in cc) h)

pub returns : goal.returns
returns c = granted (subst (λ (xs : List Change). FollowsAt c.args.nodes.now c.args.before.now c.args.row.now (touched (map (λ (l : Vec ℕ Global). l.items) c.args.places.now) xs))
    (take_all c.loop-change.change-index c.args.changes.now c.loop-change-test.false) c.loop-change.invariant)
