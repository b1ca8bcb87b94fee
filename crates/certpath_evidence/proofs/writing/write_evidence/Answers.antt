use Rattle.std.proofs.Common.{[], ◌∷◌, ◌++◌, ◌∙◌, ap, string_bytes, List, Vec, Global}
use Rattle.cert_graph.specs.declared.changes.Change.{Change}
use Rattle.cert_graph.specs.declared.inventory.Verdict.{Verdict}
use Rattle.certpath_evidence.specs.Evidence.{header}
use Rattle.certpath_evidence.proofs.Pieces.{on_ok}
use Rattle.certpath_evidence.proofs.Written.{verdicts_text, rows_text, evidence_written, joined_three}
use Rattle.certpath_evidence.proofs.writing.write_evidence.Goals as goal

pub returns : goal.returns
returns c =
    let first = string_bytes c.writeln.new.self in
    let second = string_bytes c.write_verdicts.new.text in
    let verdicts = c.args.inventory.now.verdicts.items in
    let steps = c.args.inventory.now.steps.items in
    on_ok c.write_rows.result _ _ (λ e. joined_three (string_bytes c.args.text.now) (header ++ 10 ∷ []) first (verdicts_text verdicts) second (rows_text steps) (string_bytes c.write_rows.new.text) _ c.in_ok-writeln.ensures.bytes
    (c.in_ok-write_verdicts.ensures ∙ ap (λ (z : List Verdict). first ++ verdicts_text z) c.deref.ensures.value)
    (e ∙ ap (λ (z : List (Vec Change Global)). second ++ rows_text z) c.deref-2.ensures.value) (evidence_written verdicts steps)) c.write_rows.ensures
