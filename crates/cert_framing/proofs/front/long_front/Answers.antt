use Rattle.std.proofs.Common.{inl, inr, arith}
use Rattle.cert_framing.proofs.Fronts.{long_is_none, none_of_count, long_is_cut, long_front_whole, known_are}
use Rattle.cert_framing.proofs.front.long_front.Goals as goal
use Rattle.cert_framing.proofs.front.long_front.Goals.{then-count-eq0-via-then-count-eq0, then-count-eq0-via-else-count-eq0+then-count-gt4}

pub returns-then-count-eq0 : goal.returns-then-count-eq0
returns-then-count-eq0 c =
    long_is_none c.args.limit c.args.count c.args.rest.now (λ n.
    elim c.then-count-eq0.branch [
      | then-count-eq0-via-then-count-eq0 w ↦ none_of_count c.args.limit c.args.count _ n (omega arith) (inl (omega arith))
      | then-count-eq0-via-else-count-eq0+then-count-gt4 w ↦ none_of_count c.args.limit c.args.count _ n (omega arith) (inr (omega arith))
    ])

pub returns-in_default : goal.returns-in_default
returns-in_default c =
    let known = known_are c.args.count c.min.result c.args.rest.now c.split_at.result.0.now c.split_at.ensures.front c.min.ensures in
    long_is_none c.args.limit c.args.count c.args.rest.now (λ n long small. c.in_default.ensures n (rw known long))

pub returns-then-least-from : goal.returns-then-least-from
returns-then-least-from c =
    let known = known_are c.args.count c.min.result c.args.rest.now c.split_at.result.0.now c.split_at.ensures.front c.min.ensures in
    long_is_none c.args.limit c.args.count c.args.rest.now (λ n long small.
    let above = c.in-Some.ensures.1 n (rw known long) in
    omega arith)

pub returns-then-rest-size : goal.returns-then-rest-size
returns-then-rest-size c =
    let known = known_are c.args.count c.min.result c.args.rest.now c.split_at.result.0.now c.split_at.ensures.front c.min.ensures in
    long_is_cut c.args.limit c.args.count c.in-Some.least c.args.rest.now (rw (← known) c.in-Some.ensures.0) (omega arith) (omega arith)

pub returns-else-rest-size : goal.returns-else-rest-size
returns-else-rest-size c =
    let known = known_are c.args.count c.min.result c.args.rest.now c.split_at.result.0.now c.split_at.ensures.front c.min.ensures in (
      omega arith,
      omega arith,
      long_front_whole c.args.limit c.args.count c.in-Some.least c.args.rest.now (rw (← known) c.in-Some.ensures.0) (omega arith) (omega arith),
    )
