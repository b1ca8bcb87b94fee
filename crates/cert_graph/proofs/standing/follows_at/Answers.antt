-- One group more.
use Rattle.std.proofs.Common.{◌≡◌, true, subst}
use Rattle.std.proofs.lemmas.List.{take_all}
use Rattle.cert_graph.specs.Groups.{FollowsAt}
use Rattle.cert_graph.proofs.Following.{follows_none, follows_more, follows_refused}
use Rattle.cert_graph.proofs.TableFacts.{refuted, granted}
use Rattle.cert_graph.proofs.standing.follows_at.Goals as goal

pub loop-place-init : goal.loop-place-init
loop-place-init c = follows_none c.args.nodes.now c.args.before.now c.args.row.now

pub loop-place-preserved : goal.loop-place-preserved
loop-place-preserved c =
    follows_more c.args.nodes.now c.args.before.now c.args.row.now c.args.places.now c.loop-place.place-index c.index.result.now c.loop-place-test.true (c.requires c.loop-place.place-index 0 c.loop-place-test.true) c.index.ensures
    (c.holds_all_passed.ensures.0 c.if-not-holds_all_passed.false) c.loop-place.invariant

pub returns-then-not-holds_all_passed : goal.returns-then-not-holds_all_passed
returns-then-not-holds_all_passed c = refuted (λ h.
    follows_refused c.args.nodes.now c.args.before.now c.args.row.now c.args.places.now c.loop-place.place-index c.index.result.now c.loop-place-test.true (c.requires c.loop-place.place-index 0 c.loop-place-test.true) c.index.ensures
    (λ p. let yes : c.holds_all_passed.result ≡ true = c.holds_all_passed.ensures.1 p in cc) h)

pub returns : goal.returns
returns c = granted (subst (FollowsAt c.args.nodes.now c.args.before.now c.args.row.now) (take_all c.loop-place.place-index c.args.places.now c.loop-place-test.false) c.loop-place.invariant)
