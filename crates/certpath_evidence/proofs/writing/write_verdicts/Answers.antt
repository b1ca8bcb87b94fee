use Rattle.std.proofs.Common.{[], ◌∷◌, ◌++◌, ◌∙◌, ap, string_bytes}
use Rattle.cert_graph.specs.declared.inventory.Verdict.{Verdict}
use Rattle.certpath_evidence.specs.Evidence.{said_by, verdict_line}
use Rattle.certpath_evidence.proofs.Written.{piece, pieces}
use Rattle.certpath_evidence.proofs.writing.write_verdicts.Goals as goal

pub loop-verdict-preserved : goal.loop-verdict-preserved
loop-verdict-preserved c =
    piece (λ (v : Verdict). verdict_line (said_by v) ++ 10 ∷ []) c.args.verdicts.now c.loop-verdict.verdict-index c.verdict-item.result _ (string_bytes c.loop-verdict.text) _ c.loop-verdict-test.true c.loop-verdict.invariant
    (c.in_ok-write_verdict.ensures ∙ ap (λ (v : Verdict). string_bytes c.loop-verdict.text ++ (verdict_line (said_by v) ++ 10 ∷ [])) c.verdict-item.is)

pub returns : goal.returns
returns c = pieces (λ (v : Verdict). verdict_line (said_by v) ++ 10 ∷ []) c.args.verdicts.now c.loop-verdict.verdict-index _ _ c.loop-verdict-test.false c.loop-verdict.invariant
