-- One change more.
use Rattle.std.proofs.Common.{◌∙◌, ap, List}
use Rattle.std.proofs.lemmas.List.{take_all}
use Rattle.cert_graph.specs.declared.reach.Reach.TheVariants.{No}
use Rattle.cert_graph.specs.declared.changes.Change.{Change}
use Rattle.cert_graph.specs.Adequate.{changed}
use Rattle.cert_graph.proofs.Changing.{changed_more, unchanged_more}
use Rattle.cert_graph.proofs.changes.make.Goals as goal
use Rattle.cert_graph.proofs.changes.make.Goals.{then-change-row, else-change-row}

pub loop-change-preserved : goal.loop-change-preserved
loop-change-preserved c = elim c.if-change-row.branch [
  | then-change-row w ↦ w.row-is ∙ changed_more c.args.row.now c.loop-change.row c.args.changes.now c.loop-change.change-index (record { position = 0; reach = No }) c.loop-change-test.true c.loop-change.invariant
  | else-change-row w ↦ w.row-is ∙ unchanged_more c.args.row.now c.loop-change.row c.args.changes.now c.loop-change.change-index (record { position = 0; reach = No }) c.loop-change-test.true w.if-change-row.false c.loop-change.invariant
]

pub returns : goal.returns
returns c =
    c.loop-change.invariant ∙ ap (λ (xs : List Change). changed c.args.row.now xs) (take_all c.loop-change.change-index c.args.changes.now c.loop-change-test.false)
