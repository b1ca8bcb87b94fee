-- The positions, and each reach at most the other.
use Rattle.std.proofs.Common.{◌≡◌, true, subst}
use Rattle.cert_graph.specs.declared.stairs.Stair.{Stair}
use Rattle.cert_graph.specs.Reach.{IsAtMost}
use Rattle.cert_graph.proofs.Flights.{same_stair}
use Rattle.cert_graph.proofs.ReachFacts.{at_most_same, at_most_self}
use Rattle.cert_graph.proofs.TableFacts.{refuted}
use Rattle.cert_graph.proofs.stairs.is_same.Goals as goal

pub returns-then-not-is_at_most : goal.returns-then-not-is_at_most
returns-then-not-is_at_most c = refuted (λ e.
    let yes : c.is_at_most.result ≡ true = c.is_at_most.ensures.1 (subst (λ (s : Stair). IsAtMost c.args.first.reach s.reach) e (at_most_self c.args.first.reach)) in cc)

pub returns : goal.returns
returns c = (
  λ t.
      let reach : c.args.first.reach ≡ c.args.second.reach =
      at_most_same c.args.first.reach c.args.second.reach (c.is_at_most.ensures.0 c.if-not-is_at_most.false) (c.is_at_most-2.ensures.0 t) in
      same_stair c.args.first c.args.second c.if-first-second.false reach,
  λ e. c.is_at_most-2.ensures.1 (subst (λ (s : Stair). IsAtMost s.reach c.args.first.reach) e (at_most_self c.args.first.reach)),
)
