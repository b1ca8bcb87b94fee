use Rattle.std.proofs.Common.{map}
use Rattle.std.proofs.lemmas.Result.{IfOk-weaker}
use Rattle.cert_model.specs.View.{ext_view}
use Rattle.cert_judge.proofs.FurtherFacts.{processed_by_any}
use Rattle.cert_judge.proofs.judging.are_usable.Goals as goal

pub returns : goal.returns
returns c =
    let constraints = c.are_constrained.ensures.0 c.if-not-are_constrained.false in
    let usage = c.are_used.ensures.0 c.if-not-are_used.false in
    IfOk-weaker c.are_distinct.result _ _
    (λ yes h. (λ t. record { distinct = h.0 t; processed = processed_by_any (map ext_view c.args.extensions.now); constraints = constraints; usage = usage }, λ u. h.1 u.distinct)) c.are_distinct.ensures
