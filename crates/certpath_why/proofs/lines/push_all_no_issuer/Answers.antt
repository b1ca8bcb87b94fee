use Rattle.certpath_why.specs.Lines.{issuer_line}
use Rattle.certpath_why.proofs.Texts.{lines_none, lines_more, lines_all}
use Rattle.certpath_why.proofs.lines.push_all_no_issuer.Goals as goal

pub loop-reason-init : goal.loop-reason-init
loop-reason-init c = lines_none (issuer_line c.args.place) c.args.reasons.now _

pub loop-reason-preserved : goal.loop-reason-preserved
loop-reason-preserved c = lines_more (issuer_line c.args.place) c.args.reasons.now c.loop-reason.reason-index _ _ _ _ c.loop-reason-test.true c.loop-reason.invariant c.in_ok-push_no_issuer.ensures

pub returns : goal.returns
returns c = lines_all (issuer_line c.args.place) c.args.reasons.now c.loop-reason.reason-index _ _ c.loop-reason-test.false c.loop-reason.invariant
