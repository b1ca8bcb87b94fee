use Rattle.std.proofs.Common.{refl}
use Rattle.cert_model.specs.View.{ext_view}
use Rattle.cert_model.specs.Extended.{SomeUnder}
use Rattle.cert_judge.specs.Judging.{IsAuthorityExtension, IsPathLenExtension}
use Rattle.cert_judge.proofs.Mapped.{some_at, none_more, none_at_all}
use Rattle.cert_judge.proofs.judging.authority_of.Goals as goal

pub returns-in-Some-clause-found : goal.returns-in-Some-clause-found
unfolding SomeUnder IsPathLenExtension
returns-in-Some-clause-found c =
    let s = some_at ext_view (IsPathLenExtension c.in-Some.limit) c.args.extensions.now c.loop-extension.extension-index _ c.loop-extension-test.true c.in-Some.ensures.found in
    (s.0, s.1, s.2.0, s.2.1)

pub loop-extension-preserved : goal.loop-extension-preserved
loop-extension-preserved c =
    none_more ext_view IsAuthorityExtension c.args.extensions.now c.loop-extension.extension-index _ c.loop-extension-test.true c.loop-extension.invariant (c.in_default.ensures.only refl)

pub returns-clause-only : goal.returns-clause-only
unfolding SomeUnder IsAuthorityExtension
returns-clause-only c = λ is s.
    none_at_all ext_view IsAuthorityExtension c.args.extensions.now c.loop-extension.extension-index c.loop-extension-test.false c.loop-extension.invariant s.0 s.1 (s.2, s.3)
