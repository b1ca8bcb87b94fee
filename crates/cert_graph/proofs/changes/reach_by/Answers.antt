-- One change more; past the row's end none counts.
use Rattle.std.proofs.Common.{◌∙◌, ◌<◌, ◌≤◌, arith, sym, length, replicate}
use Rattle.std.proofs.lemmas.List.{length-replicate}
use Rattle.cert_graph.specs.declared.reach.Reach.TheVariants.{No}
use Rattle.cert_graph.proofs.Changing.{at_more, at_end}
use Rattle.cert_graph.proofs.changes.reach_by.Goals as goal
use Rattle.cert_graph.proofs.changes.reach_by.Goals.{then-change-position, else-change-position}

pub loop-change-preserved : goal.loop-change-preserved
loop-change-preserved c =
    let row = replicate c.args.width No in
    let size = length-replicate c.args.width No in
    let inside : c.args.position < length row = omega (arith, size, c.if-position-width.true) in
    let more = at_more row c.args.changes.now c.loop-change.change-index c.args.position (record { position = 0; reach = No }) c.loop-change.reach c.loop-change-test.true inside c.loop-change.invariant in
    elim c.if-change-position.branch [
      | then-change-position w ↦ w.reach-is ∙ more.0 w.if-change-position.true
      | else-change-position w ↦ w.reach-is ∙ more.1 w.if-change-position.false
    ]

pub returns-else-position-width : goal.returns-else-position-width
returns-else-position-width c =
    let row = replicate c.args.width No in
    let size = length-replicate c.args.width No in
    let past : length row ≤ c.args.position = omega (arith, size, c.if-position-width.false) in
    sym (at_end row c.args.changes.now c.args.position past)
