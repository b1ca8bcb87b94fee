use Rattle.std.proofs.Common.{ap, ◌∙◌}
use Rattle.certpath_run.specs.JudgedReport.{one_certificate}
use Rattle.certpath_run.proofs.ReportFacts.{one_counted, all_counted}
use Rattle.certpath_run.proofs.report.count_certificates.Goals as goal

pub loop-item-preserved : goal.loop-item-preserved
loop-item-preserved c =
    let more = c.certificates_in-count in
    one_counted c.args.items.now c.loop-item.item-index c.loop-item.count more.result c.item-item.result c.loop-item-test.true c.loop-item.invariant (more.ensures.one ∙ ap one_certificate c.item-item.is) more.ensures.small

pub returns : goal.returns
returns c = all_counted c.args.items.now c.loop-item.item-index c.loop-item.count c.loop-item-test.false c.loop-item.invariant
