use Rattle.cert_model.specs.View.{list_view}
use Rattle.certpath_why.specs.Lines.{unused_line}
use Rattle.certpath_why.proofs.Texts.{lines_none, lines_more, lines_all}
use Rattle.certpath_why.proofs.lines.push_all_unused.Goals as goal

pub loop-reason-init : goal.loop-reason-init
loop-reason-init c = lines_none (unused_line c.args.place (list_view c.args.fields.now)) c.args.reasons.now _

pub loop-reason-preserved : goal.loop-reason-preserved
loop-reason-preserved c = lines_more (unused_line c.args.place (list_view c.args.fields.now)) c.args.reasons.now c.loop-reason.reason-index _ _ _ _ c.loop-reason-test.true c.loop-reason.invariant c.in_ok-push_unused.ensures

pub returns : goal.returns
returns c = lines_all (unused_line c.args.place (list_view c.args.fields.now)) c.args.reasons.now c.loop-reason.reason-index _ _ c.loop-reason-test.false c.loop-reason.invariant
