use Rattle.std.proofs.Common.{ap, sym, ◌∙◌}
use Rattle.certpath_run.specs.AllReport.{is_pathless}
use Rattle.certpath_run.proofs.InventoryFacts.{pathless_here, pathless_further, none_pathless}
use Rattle.certpath_run.proofs.report_all.outcome_of_all.Goals as goal

pub returns-then-is_pathless : goal.returns-then-is_pathless
returns-then-is_pathless c =
    let verdict = c.verdict-item.result in
    pathless_here c.args.verdicts.now c.loop-verdict.verdict-index verdict c.loop-verdict-test.true c.loop-verdict.invariant (sym (ap is_pathless c.verdict-item.is) ∙ sym c.is_pathless.ensures ∙ c.if-is_pathless.true)

pub loop-verdict-preserved : goal.loop-verdict-preserved
loop-verdict-preserved c =
    let verdict = c.verdict-item.result in
    pathless_further c.args.verdicts.now c.loop-verdict.verdict-index verdict c.loop-verdict-test.true c.loop-verdict.invariant (sym (ap is_pathless c.verdict-item.is) ∙ sym c.is_pathless.ensures ∙ c.if-is_pathless.false)

pub returns : goal.returns
returns c = none_pathless c.args.verdicts.now c.loop-verdict.verdict-index c.loop-verdict-test.false c.loop-verdict.invariant
