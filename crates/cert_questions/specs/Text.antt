-- What `certpath questions` prints. Each line ends in LF (10), and a space is 32. This page is to
-- be believed.
use Rattle.std.specs.Prelude.{ℕ, List, [], ◌∷◌, ◌++◌, codes}
use Rattle.std.specs.Fmt.{decimal}
use Rattle.cert_questions.specs.declared.question.KeyHolder.{KeyHolder}
use Rattle.cert_questions.specs.declared.question.KeyHolder.TheVariants.{Item, Anchor}
use Rattle.cert_questions.specs.declared.question.Question.{Question}

-- whose key it is: an item or an anchor, by its position
abbrev pub holder_words : KeyHolder → List ℕ
holder_words (Item k) = codes " item " ++ decimal k
holder_words (Anchor k) = codes " anchor " ++ decimal k

-- the item, then the key holder: three words, as `0 item 1` or `0 anchor 2`
abbrev pub question_line : Question → List ℕ
question_line q = decimal q.item ++ (holder_words q.holder ++ 10 ∷ [])

abbrev pub question_lines : List Question → List ℕ
question_lines [] = []
question_lines (q ∷ questions) = question_line q ++ question_lines questions
