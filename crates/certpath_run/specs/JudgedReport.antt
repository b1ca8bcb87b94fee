-- The report of judged items, as the code writes it.
use Rattle.std.specs.Prelude.{ℕ, ◌+◌, Bool, List, [], ◌∷◌, ◌++◌, length, codes}
use Rattle.std.specs.Fmt.{decimal}
use Rattle.cert_framing.specs.declared.ending.End.{End}
use Rattle.cert_graph.specs.declared.answer.Answer.{Answer}
use Rattle.cert_graph.specs.declared.inventory.Verdict.{Verdict}
use Rattle.cert_graph.specs.declared.inventory.Verdict.TheVariants.{FirstPath, Pathless, NoCertificate}
use Rattle.cert_judge.specs.declared.judged.JudgedItem.{JudgedItem}
use Rattle.cert_judge.specs.declared.judged.JudgedItem.TheVariants.{Certificate as certificate_judged, List as list_judged, Other as other_judged}
use Rattle.certpath_run.specs.Report.{end_words, end_line, position_words, answer_line}
use Rattle.certpath_inputs.specs.Check.{check_line}

abbrev pub judged_word : JudgedItem → List ℕ
judged_word (certificate_judged j) = codes "cert"
judged_word (list_judged j) = codes "list"
judged_word other_judged = codes "other"

abbrev pub judged_line : ℕ → JudgedItem → List ℕ
judged_line k item = decimal k ++ (32 ∷ (judged_word item ++ 10 ∷ []))

abbrev pub judged_lines : ℕ → List JudgedItem → List ℕ
judged_lines k [] = []
judged_lines k (item ∷ items) = judged_line k item ++ judged_lines (k + 1) items

abbrev pub one_certificate : JudgedItem → ℕ
one_certificate (certificate_judged j) = 1
one_certificate (list_judged j) = 0
one_certificate other_judged = 0

abbrev pub certificates_of : List JudgedItem → ℕ
certificates_of [] = 0
certificates_of (item ∷ items) = one_certificate item + certificates_of items

-- so many certificates of so many anchor items
abbrev pub counts_line : ℕ → ℕ → End → List ℕ
counts_line certificates all end =
    codes "anchors " ++ (decimal certificates ++ (codes " of " ++ (decimal all ++ (codes ", " ++ (end_words end ++ 10 ∷ [])))))

abbrev pub judged_report : List ℕ → List JudgedItem → End → List JudgedItem → End → Answer → Bool → List ℕ
judged_report lines items end anchors anchors_end answer said =
    judged_lines 0 items ++ (end_line end ++ (counts_line (certificates_of anchors) (length anchors) anchors_end ++ (lines ++ (answer_line answer ++ check_line said))))

-- a line of a judged item and what is said of it as a target
abbrev pub judged_verdict_line : ℕ → JudgedItem → Verdict → List ℕ
judged_verdict_line k item (FirstPath positions anchor) =
    decimal k ++ (32 ∷ (codes "path" ++ (position_words positions.items ++ (codes " anchor " ++ (decimal anchor ++ 10 ∷ [])))))
judged_verdict_line k item Pathless = decimal k ++ (32 ∷ codes "none\n")
judged_verdict_line k item NoCertificate = judged_line k item

abbrev pub judged_verdict_lines : ℕ → List JudgedItem → List Verdict → List ℕ
judged_verdict_lines k [] verdicts = []
judged_verdict_lines k (item ∷ items) [] = []
judged_verdict_lines k (item ∷ items) (verdict ∷ verdicts) = judged_verdict_line k item verdict ++ judged_verdict_lines (k + 1) items verdicts

abbrev pub judged_all_report : List ℕ → List JudgedItem → End → List JudgedItem → End → List Verdict → Bool → List ℕ
judged_all_report lines items end anchors anchors_end verdicts said =
    judged_verdict_lines 0 items verdicts ++ (end_line end ++ (counts_line (certificates_of anchors) (length anchors) anchors_end ++ (lines ++ check_line said)))
