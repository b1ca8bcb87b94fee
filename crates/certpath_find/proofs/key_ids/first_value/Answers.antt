use Rattle.cert_model.specs.Extended.{under_ce}
use Rattle.cert_model.proofs.FirstUnder.{found_first, none_more, none_first, one_value}
use Rattle.certpath_find.proofs.key_ids.first_value.Goals as goal

pub returns-then-is_ce-clause-found : goal.returns-then-is_ce-clause-found
returns-then-is_ce-clause-found c =
    found_first (under_ce c.args.n) c.args.extensions.now c.loop-extension.extension-index _ c.loop-extension-test.true (c.is_ce.ensures.0 c.if-is_ce.true) c.loop-extension.invariant

pub returns-then-is_ce-clause-only : goal.returns-then-is_ce-clause-only
returns-then-is_ce-clause-only c = λ value first.
    let f = found_first (under_ce c.args.n) c.args.extensions.now c.loop-extension.extension-index _ c.loop-extension-test.true (c.is_ce.ensures.0 c.if-is_ce.true) c.loop-extension.invariant in
    one_value (under_ce c.args.n) _ _ value f first

pub loop-extension-preserved : goal.loop-extension-preserved
loop-extension-preserved c =
    none_more (under_ce c.args.n) c.args.extensions.now c.loop-extension.extension-index _ c.loop-extension-test.true c.loop-extension.invariant
    (λ is. let t = c.is_ce.ensures.1 is in let f = c.if-is_ce.false in cc)

pub returns-clause-only : goal.returns-clause-only
returns-clause-only c = λ value first.
    absurd (none_first (under_ce c.args.n) c.args.extensions.now c.loop-extension.extension-index value c.loop-extension-test.false c.loop-extension.invariant first)
