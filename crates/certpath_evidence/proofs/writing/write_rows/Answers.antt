use Rattle.std.proofs.Common.{◌++◌, ◌∙◌, ap, string_bytes, List, Vec, Global}
use Rattle.cert_graph.specs.declared.changes.Change.{Change}
use Rattle.certpath_evidence.specs.Evidence.{ended, row_lines}
use Rattle.certpath_evidence.proofs.Written.{piece, pieces}
use Rattle.certpath_evidence.proofs.writing.write_rows.Goals as goal

pub loop-step-preserved : goal.loop-step-preserved
loop-step-preserved c =
    piece (λ (s : Vec Change Global). ended (row_lines s.items)) c.args.steps.now c.loop-step.step-index c.step-item.result _ (string_bytes c.loop-step.text) _ c.loop-step-test.true c.loop-step.invariant
    (c.in_ok-write_row.ensures ∙ ap (λ (z : List Change). string_bytes c.loop-step.text ++ ended (row_lines z)) (c.deref.ensures.value ∙ ap (λ (s : Vec Change Global). s.items) c.step-item.is))

pub returns : goal.returns
returns c = pieces (λ (s : Vec Change Global). ended (row_lines s.items)) c.args.steps.now c.loop-step.step-index _ _ c.loop-step-test.false c.loop-step.invariant
