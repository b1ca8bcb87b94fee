use Rattle.std.proofs.Common.{ap, ◌∙◌, ◌++◌, string_bytes}
use Rattle.certpath_run.specs.JudgedReport.{judged_line}
use Rattle.certpath_run.proofs.ReportFacts.{item_pushed, items_pushed}
use Rattle.certpath_run.proofs.report.push_items.Goals as goal

pub loop-k-preserved : goal.loop-k-preserved
loop-k-preserved c =
    let item = c.index-items-k.result in
    item_pushed c.args.items.now c.loop-k.k item _ (string_bytes c.loop-k.text) _ c.loop-k-test.true c.loop-k.invariant
    (c.in_ok-push_item.ensures ∙ ap (λ x. string_bytes c.loop-k.text ++ judged_line c.loop-k.k x) c.index-items-k.is)

pub returns : goal.returns
returns c = items_pushed c.args.items.now c.loop-k.k _ _ c.loop-k-test.false c.loop-k.invariant
