-- What the report says. Each line ends in LF (10), and a space is 32. This page is to be believed.
use Rattle.std.specs.Prelude.{ℕ, ◌+◌, Bool, true, false, if◌then◌else◌, List, [], ◌∷◌, ◌++◌, length, codes}
use Rattle.std.specs.Fmt.{decimal}
use Rattle.cert_framing.specs.declared.ending.End.{End}
use Rattle.cert_framing.specs.declared.ending.End.TheVariants.{Clean, Cut, Fault}
use Rattle.cert_graph.specs.declared.answer.Answer.{Answer}
use Rattle.cert_graph.specs.declared.answer.Answer.TheVariants.{Path, NoPath, NoTarget}
use Rattle.cert_model.specs.Class.{Class, certificate, list, other}
use Rattle.cert_judge.specs.Revoking.{Item}
use Rattle.certpath_inputs.specs.Check.{check_line}

abbrev pub class_word : Class → List ℕ
class_word (certificate c) = codes "cert"
class_word (list l) = codes "list"
class_word other = codes "other"

-- a line for each item: its number, from k on, and its class
abbrev pub item_lines : ℕ → List Item → List ℕ
item_lines k [] = []
item_lines k (item ∷ items) = (decimal k ++ (32 ∷ (class_word item.class ++ 10 ∷ []))) ++ item_lines (k + 1) items

-- how a stream ends, and where what is left begins
abbrev pub end_words : End → List ℕ
end_words Clean = codes "clean"
end_words (Cut at) = codes "cut " ++ decimal at
end_words (Fault at) = codes "fault " ++ decimal at

abbrev pub end_line : End → List ℕ
end_line end = codes "end " ++ (end_words end ++ 10 ∷ [])

abbrev pub is_certificate : Class → Bool
is_certificate (certificate c) = true
is_certificate (list l) = false
is_certificate other = false

-- how many items are certificates
abbrev pub certificates_among : List Item → ℕ
certificates_among [] = 0
certificates_among (item ∷ items) = (if is_certificate item.class then 1 else 0) + certificates_among items

-- how many of the anchor items are certificates, how many there are, and how their stream ends
abbrev pub anchors_line : List Item → End → List ℕ
anchors_line anchors end =
    codes "anchors " ++ (decimal (certificates_among anchors) ++ (codes " of " ++ (decimal (length anchors) ++ (codes ", " ++ (end_words end ++ 10 ∷ [])))))

abbrev pub position_words : List ℕ → List ℕ
position_words [] = []
position_words (position ∷ positions) = (32 ∷ decimal position) ++ position_words positions

-- the positions of a path and its anchor, or that there is none, or that the target is no certificate
abbrev pub answer_line : Answer → List ℕ
answer_line (Path positions anchor table) = codes "path" ++ (position_words positions.items ++ (codes " anchor " ++ (decimal anchor ++ 10 ∷ [])))
answer_line (NoPath table) = codes "none\n"
answer_line NoTarget = codes "no target\n"

-- with the lines of what is demanded before the answer
abbrev pub report_with : List ℕ → List Item → End → List Item → End → Answer → Bool → List ℕ
report_with lines items end anchors anchors_end answer said =
    item_lines 0 items ++ (end_line end ++ (anchors_line anchors anchors_end ++ (lines ++ (answer_line answer ++ check_line said))))

-- and without a demand
abbrev pub report : List Item → End → List Item → End → Answer → Bool → List ℕ
report = report_with []
