-- All groups, or those that the changes touch.
use Rattle.std.proofs.Common.{ℕ, ◌<◌, length, map, Vec, Global, arith}
use Rattle.std.proofs.lemmas.Result.{on_ok_weaker}
use Rattle.cert_graph.proofs.Flights.{flights_in}
use Rattle.cert_graph.proofs.Touching.{all_climbed, memberships_within}
use Rattle.cert_graph.proofs.stairs.climb_by.Goals as goal

pub returns-then-number-eq0 : goal.returns-then-number-eq0
returns-then-number-eq0 c = on_ok_weaker c.climb_all.result (λ f rows before number last made h. f rows number h) c.climb_all.ensures

pub returns-then-is_wide : goal.returns-then-is_wide
returns-then-is_wide c = on_ok_weaker c.climb_all-then-is_wide.result (λ f rows before number last made h. f rows number h) c.climb_all-then-is_wide.ensures

pub climb_some-requires-clause-within : goal.climb_some-requires-clause-within
climb_some-requires-clause-within c = memberships_within c.args.nodes.now c.args.places.now c.requires.places

pub returns : goal.returns
returns c = on_ok_weaker c.climb_some.result (λ f rows before number last made h.
    let some : 0 < length rows = omega (arith, number, c.if-number-eq0.false) in
    all_climbed c.args.nodes.now rows (map (λ (l : Vec ℕ Global). l.items) c.args.places.now) c.args.step.now before c.args.row.now (flights_in c.climb_some.new.flights.items) some c.requires.places (last some) made (f rows number h)) c.climb_some.ensures
