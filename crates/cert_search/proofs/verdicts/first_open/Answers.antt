-- Row by row.
use Rattle.std.proofs.Common.{◌<◌, length, arith, below_more}
use Rattle.cert_search.proofs.verdicts.first_open.Goals as goal

pub returns-then-leads_on : goal.returns-then-leads_on
returns-then-leads_on c = λ nodes rows h size.
    let within : c.loop-place.place < length rows = omega arith in
    ((within, (c.leads_on.ensures nodes rows h within).0 c.if-leads_on.true), c.loop-place.invariant nodes rows h size)

pub loop-place-preserved : goal.loop-place-preserved
loop-place-preserved c = λ nodes rows h size.
    below_more _ _ (c.loop-place.invariant nodes rows h size) (λ x. cc (c.if-leads_on.false, (c.leads_on.ensures nodes rows h x.0).1 x.1))

pub returns : goal.returns
returns c = λ nodes rows h size n x.
    let lt = x.0 in
    let below : n < c.loop-place.place = omega arith in
    c.loop-place.invariant nodes rows h size n below x
