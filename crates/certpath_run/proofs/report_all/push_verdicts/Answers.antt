use Rattle.std.proofs.Common.{ap, ◌∙◌, ◌++◌, get_or, string_bytes}
use Rattle.certpath_run.specs.JudgedReport.{judged_verdict_line}
use Rattle.certpath_run.proofs.InventoryFacts.{verdict_pushed, verdicts_pushed}
use Rattle.certpath_run.proofs.report_all.push_verdicts.Goals as goal

pub loop-k-preserved : goal.loop-k-preserved
loop-k-preserved c =
    let item = c.index-items-k.result in
    let verdict = c.index-verdicts-k.result in
    verdict_pushed c.args.items.now c.args.verdicts.now c.loop-k.k item verdict _ (string_bytes c.loop-k.text) _ c.loop-k-test.true c.requires c.loop-k.invariant
    (c.in_ok-push_verdict.ensures ∙ ap (λ x. string_bytes c.loop-k.text ++ judged_verdict_line c.loop-k.k x verdict) c.index-items-k.is
    ∙ ap (λ v. string_bytes c.loop-k.text ++ judged_verdict_line c.loop-k.k (get_or c.args.items.now c.loop-k.k item) v) c.index-verdicts-k.is)

pub returns : goal.returns
returns c = verdicts_pushed c.args.items.now c.args.verdicts.now c.loop-k.k _ _ c.loop-k-test.false c.loop-k.invariant
