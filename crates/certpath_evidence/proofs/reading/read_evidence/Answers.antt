use Rattle.std.proofs.Common.{◌≢◌, []}
use Rattle.certpath_evidence.specs.Evidence.{told_by}
use Rattle.certpath_evidence.proofs.SoFar.{no_header, not_ended, line_bad, refused, handed_on}
use Rattle.certpath_evidence.proofs.reading.read_evidence.Goals as goal

pub returns-in_default : goal.returns-in_default
returns-in_default c = no_header c.args.text.now c.in_default.ensures.none

pub returns-in_default-split_once : goal.returns-in_default-split_once
returns-in_default-split_once c =
    let some : c.loop-rest.rest.now ≢ [] = λ e. let a = c.loop-rest-test.true in let b = c.is_empty.ensures in let d = rw e at b in cc in
    not_ended c.args.text.now c.loop-rest.rest.now (told_by c.loop-rest.inventory) c.loop-rest.number c.loop-rest.invariant c.in_default-split_once.ensures.none some

pub returns-in_err-add_line : goal.returns-in_err-add_line
returns-in_err-add_line c =
    let text = c.args.text.now in
    let some : c.loop-rest.rest.now ≢ [] = λ e. let a = c.loop-rest-test.true in let b = c.is_empty.ensures in let d = rw e at b in cc in
    let bad = line_bad text c.loop-rest.rest.now c.in-Some-split_once.line.now c.in-Some-split_once.after.now (told_by c.loop-rest.inventory) c.loop-rest.number c.loop-rest.invariant c.in-Some-split_once.ensures.found c.in-Some-split_once.ensures.first some in
    handed_on text c.in_err-add_line.field-0.0 c.from_residual.result (refused text c.loop-rest.number _ c.in_err-add_line.field-0.0 bad c.in_err-add_line.ensures.refused) c.from_residual.ensures.1
