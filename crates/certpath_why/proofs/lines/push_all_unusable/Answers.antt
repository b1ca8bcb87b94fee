use Rattle.cert_model.specs.View.{certificate_view}
use Rattle.certpath_why.specs.Lines.{unusable_line}
use Rattle.certpath_why.proofs.Texts.{lines_none, lines_more, lines_all}
use Rattle.certpath_why.proofs.lines.push_all_unusable.Goals as goal

pub loop-reason-init : goal.loop-reason-init
loop-reason-init c = lines_none (unusable_line c.args.place (certificate_view c.args.fields.now)) c.args.reasons.now _

pub loop-reason-preserved : goal.loop-reason-preserved
loop-reason-preserved c = lines_more (unusable_line c.args.place (certificate_view c.args.fields.now)) c.args.reasons.now c.loop-reason.reason-index _ _ _ _ c.loop-reason-test.true c.loop-reason.invariant c.in_ok-push_unusable.ensures

pub returns : goal.returns
returns c = lines_all (unusable_line c.args.place (certificate_view c.args.fields.now)) c.args.reasons.now c.loop-reason.reason-index _ _ c.loop-reason-test.false c.loop-reason.invariant
